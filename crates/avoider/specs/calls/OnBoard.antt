-- Decisions on a board: what they rest on, and what they make of a seat.
use Rattle.std.specs.Prelude.{◌≡◌, ◌≢◌, ℕ, ◌<◌, true, List, Some, length, is_some, Contains}
use Rattle.std.proofs.Common.{zero, suc}
use Rattle.armus_base.specs.declared.event.Event.{Event}
use Rattle.armus_base.specs.declared.ids.TaskId.{TaskId}
use Rattle.armus_base.specs.declared.status.Status.{Status}
use Rattle.armus_base.specs.Avoidance.{LeavesNobodyDead}
use Rattle.armus_base.specs.Deadlocks.{IsListedOn, WouldBeDead}
use Rattle.armus_base.specs.Graphs.{WaitsFor}
use Rattle.armus_base.specs.Plans.{Aim, Blocks, Drops, Refuses}
use Rattle.armus_base.specs.calls.Relations.{ReachesCycle}
use Rattle.armus_base.specs.calls.Seats.{InEachWithLock}
use Rattle.armus_base.specs.States.{awaited, Phases, State}
use Rattle.board.specs.calls.Locking.{FreesLock, IsWithLock}
use Rattle.board.specs.calls.Seats.{Frame, IsOf, Known, MakesStep}
use Rattle.board.specs.calls.Steps.{own_phase}
use Rattle.board.specs.calls.Views.{avoids, next_action, seen, task_of}
use Rattle.phase_scan.specs.calls.Collecting.{HasCollected}
use Rattle.phase_scan.specs.calls.Collects.{Collection, IfAsked}
use Rattle.phase_scan.specs.calls.Looks.{LoadsAlone}
use Rattle.phase_scan.specs.calls.Supposed.{IsSupposed}
use Rattle.verdict.specs.declared.found.Cycle.{Cycle}
use Rattle.avoider.specs.calls.Decisions.{ExplainsDeath}
use Rattle.avoider.specs.declared.decision.Decision.{Decision}
use Rattle.avoider.specs.declared.decision.Decision.TheVariants.{Published, Refused}

-- the seat is one of the board and holds its lock, the next op of its task is an await with this aim that is not published, and the cells are for as many
-- tasks and phasers as the board has
pub record IsBeforeDecision (f : Frame) (aim : Aim) (cells : Collection) (seat : Known) : Type 0 where
  pub made : IsOf seat f
  pub phaser : aim.phaser < length f.plan.makers
  pub locked : seat.view.holds ≡ true
  pub next : next_action seat.view ≡ Some (Blocks aim)
  pub tasks : cells.tasks ≡ length f.plan.parents
  pub phasers : cells.phasers ≡ length f.plan.makers

-- the cells are for as many tasks and phasers as they were
pub record HasSameRoom (old new : Collection) : Type 0 where
  pub tasks : new.tasks ≡ old.tasks
  pub phasers : new.phasers ≡ old.phasers

-- The loads of a decision on the own await with this aim, which is of this event: a collect, which found the statuses of this list, and then the further
-- loads by which the own status and the phases on the event's phaser are added.
pub record Judges (list : List Status) (aim : Aim) (event : Event) (supposed : List Status) (before now : Known) : Type 0 where
  pub between : Known
  pub collected : HasCollected before.view.plan list before between
  pub adds : IsSupposed before.view.plan list event supposed between now
  pub own : awaited (Some (Blocks aim)) (own_phase before.view) ≡ Some event

-- this holds in each state that has the lock with the seat and is as far on as what it has seen
abbrev pub InEachByLock : Known → (State → Type 0) → Type 0
InEachByLock seat Holds = InEachWithLock seat.view.plan (task_of seat.view) (seen seat.view) Holds

-- one of these states there is
abbrev pub IsPossibleByLock : Known → Type 0
IsPossibleByLock seat = IsWithLock seat.view.plan (task_of seat.view) (seen seat.view)

-- a refused task drops those of the first phasers of which it is a member, in order of number
abbrev pub DropsBelow : Phases → ℕ → Known → Known → Type 0
DropsBelow phases zero before now = now ≡ before
DropsBelow phases (suc q) before now =
    (between : Known) × DropsBelow phases q before between × IfAsked (is_some (phases q)) (MakesStep (Drops q)) between now

-- The task has published the event of its await. At the store this left nobody dead in any state that it might be in. After it the lock was freed.
pub record HasPublished (list : List Status) (aim : Aim) (event : Event) (before now : Known) : Type 0 where
  pub supposed : List Status
  pub store : Known
  pub judges : Judges list aim event supposed before store
  pub alive : InEachByLock store (λ s. LeavesNobodyDead s (task_of store.view) event)
  pub possible : IsPossibleByLock store
  pub stored : Known
  pub step : MakesStep (Blocks aim) store stored
  pub freed : FreesLock stored now

-- What the holder of the lock knows when it stores a refusal: with its event published its task would be dead in every state that it might be in, of which there
-- is one, as the cycle of the statuses explains, in which it stands, and each of whose other tasks is published on its event in every such state.
pub record KnowsDeath (event : Event) (supposed : List Status) (cycle : Cycle) (store : Known) : Type 0 where
  pub dead : InEachByLock store (λ s. WouldBeDead s (task_of store.view) event)
  pub possible : IsPossibleByLock store
  pub explains : ExplainsDeath supposed (task_of store.view) cycle
  pub stands : Contains cycle.tasks (record { 0 = task_of store.view })
  pub others :
      (u : TaskId) (e : Event) → Contains cycle.tasks u → u.0 ≢ task_of store.view → IsListedOn supposed u.0 e →
      InEachByLock store (λ s. s.published u.0 ≡ Some e)

-- the refusal of the await with this aim was stored, after it the lock was freed, and then the task has dropped all its phasers, in order of number
pub record RefusesAndDrops (aim : Aim) (store now : Known) : Type 0 where
  pub stored : Known
  pub step : MakesStep (Refuses aim) store stored
  pub free : Known
  pub freed : FreesLock stored free
  pub drops : DropsBelow (own_phase store.view) (length store.view.plan.makers) free now

-- the task was refused at its await with this aim, where it knew at the store that it would have been dead
pub record HasRefused (list : List Status) (aim : Aim) (cycle : Cycle) (before now : Known) : Type 0 where
  pub event : Event
  pub supposed : List Status
  pub store : Known
  pub judges : Judges list aim event supposed before store
  pub knows : KnowsDeath event supposed cycle store
  pub leaves : RefusesAndDrops aim store now

-- what was decided on the own await with this aim
abbrev pub IsDecidedOnBoard : List Status → Aim → Known → Known → Decision → Type 0
IsDecidedOnBoard list aim before now (Published e) = HasPublished list aim e before now
IsDecidedOnBoard list aim before now (Refused c) = HasRefused list aim c before now

-- on a board that avoids deadlock the statuses that a collect has found have no cycle of the wait-for graph
abbrev pub CollectedHaveNoCycle : Type 0
CollectedHaveNoCycle =
    (list : List Status) (before now : Known) → avoids before.view.mode ≡ true → HasCollected before.view.plan list before now → (t : TaskId) →
    ReachesCycle (WaitsFor list) t → ⊥

-- nothing was decided: loads were made, and the lock was freed
pub record IsUndecided (before now : Known) : Type 0 where
  pub between : Known
  pub goes_on : LoadsAlone before between
  pub freed : FreesLock between now
