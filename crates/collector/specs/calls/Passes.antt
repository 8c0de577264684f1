-- Passes: whom one names, by what its viewer had seen before it and what it has seen after it.
use Rattle.std.specs.Prelude.{◌≡◌, ℕ, ◌↔◌, ◌⊎◌, Bool, true, false, List, Option, Some, None, Contains, map, not, slice_get, unwrap_or}
use Rattle.std.specs.List.{filter}
use Rattle.armus_base.specs.declared.ids.TaskId.{TaskId}
use Rattle.armus_base.specs.declared.status.Dead.{Dead}
use Rattle.armus_base.specs.declared.status.Status.{Status}
use Rattle.armus_base.specs.States.{State}
use Rattle.armus_base.specs.Runs.{Place}
use Rattle.armus_base.specs.Places.{state_at}
use Rattle.armus_base.specs.calls.Boards.{IsLawful}
use Rattle.armus_base.specs.calls.Seats.{IsAsFarOn, IsKnownDead}
use Rattle.armus_base.specs.Deadlocks.{IsDeadIn}
use Rattle.armus_base.specs.DeadLists.{IsDeadList}
use Rattle.board.specs.calls.Views.{avoids, seen}
use Rattle.board.specs.calls.Seats.{Known}
use Rattle.phase_scan.specs.calls.Settled.{KnowsAll, seen_state}
use Rattle.collector.specs.declared.verdict.Verdict.{Verdict}

-- for how many tasks and phasers a collector is, for each task whether it was named, and the statuses that the last pass found
pub record Watch : Type 0 where
  pub tasks : ℕ
  pub phasers : ℕ
  pub names : List Bool
  pub statuses : List Status

-- by this list task t was named
abbrev pub was_named : List Bool → ℕ → Bool
was_named names t = unwrap_or (slice_get names t) false

-- this holds in every lawful state as far on as what a viewer has seen
abbrev pub InEachState : Known → (State → Type 0) → Type 0
InEachState view Holds =
    (a : ℕ → Place) (lock : Option ℕ) → IsLawful (avoids view.view.mode) view.view.plan a lock →
    IsAsFarOn view.view.plan None a (seen view.view) → Holds (state_at view.view.plan a)

-- the task is dead in every such state
abbrev pub IsKnownDeadTo : Known → ℕ → Type 0
IsKnownDeadTo view t = IsKnownDead (avoids view.view.mode) view.view.plan None (seen view.view) t

-- A verdict on these statuses, by a collector that has named these tasks: it has just the dead of the statuses. All that were known to be dead before
-- are among them, and only such as are known to be after. The fresh ones are those not named before, in order, each with its event in every state.
pub record IsPassVerdict (names : List Bool) (list : List Status) (before now : Known) (verdict : Verdict) : Type 0 where
  pub dead : IsDeadList list verdict.dead
  pub all : (t : TaskId) → IsKnownDeadTo before t.0 → Contains verdict.dead t
  pub only : (t : TaskId) → Contains verdict.dead t → IsKnownDeadTo now t.0
  pub fresh : map (λ d. d.t) verdict.fresh ≡ filter (λ t. not (was_named names t.0)) verdict.dead
  pub events : (d : Dead) → Contains verdict.fresh d → InEachState now (λ s. s.published d.t.0 ≡ Some d.event)

-- these are the tasks that are dead in the state
abbrev pub HasDeadOf : State → List TaskId → Type 0
HasDeadOf s dead = (t : TaskId) → Contains dead t ↔ IsDeadIn s t.0

-- named now are these tasks, and those that were named before
abbrev pub NamesToo : List TaskId → List Bool → List Bool → Type 0
NamesToo tasks before now = (t : TaskId) → was_named now t.0 ≡ true ↔ (was_named before t.0 ≡ true ⊎ Contains tasks t)

-- A pass that has an answer: the verdict on the statuses that it found, whose dead tasks are named too. If the viewer knew all tasks exactly before, the
-- dead are those of the state that the board is in.
pub record IsPass (old new : Watch) (before now : Known) (answer : Verdict) : Type 0 where
  pub verdict : IsPassVerdict old.names new.statuses before now answer
  pub named : NamesToo answer.dead old.names new.names
  pub settled_dead : KnowsAll before → HasDeadOf (seen_state before) answer.dead
