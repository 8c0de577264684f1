-- Decisions on an await: what they make of a world, and the cycle of a refusal.
use Rattle.std.specs.Prelude.{◌≡◌, ◌≢◌, ℕ, ◌<◌, ◌⊎◌, List, Option, length, Contains, MatchOption}
use Rattle.armus_base.specs.declared.event.Event.{Event}
use Rattle.armus_base.specs.declared.ids.TaskId.{TaskId}
use Rattle.armus_base.specs.declared.status.Status.{Status}
use Rattle.armus_base.specs.DeadLists.{IsDeadList}
use Rattle.armus_base.specs.Deadlocks.{IsDeadBy, NobodyDead, WouldBeDead}
use Rattle.armus_base.specs.Plans.{Aim, Blocks}
use Rattle.armus_base.specs.States.{if_published}
use Rattle.armus_base.specs.calls.Statuses.{IsInOrder}
use Rattle.pl_core.specs.calls.Moves.{MakesRefusal, IsWorldStep}
use Rattle.pl_core.specs.calls.Stands.{IsAtAwaitOf}
use Rattle.pl_core.specs.calls.Awaiting.{awaited_statuses}
use Rattle.pl_core.specs.calls.Worlds.{WorldValue, state_of}
use Rattle.verdict.specs.calls.Cycles.{IsCycle, IsCycleOf}
use Rattle.verdict.specs.declared.found.Cycle.{Cycle}
use Rattle.avoider.specs.declared.decision.Decision.{Decision}
use Rattle.avoider.specs.declared.decision.Decision.TheVariants.{Published, Refused}

-- The task is dead by the statuses, and the cycle is that of the walk from the least of those that are: each of its tasks awaits its event, which
-- the next one impedes.
pub record ExplainsDeath (list : List Status) (t : ℕ) (c : Cycle) : Type 0 where
  pub dead : List TaskId
  pub are_dead : IsDeadList list dead
  pub among : IsDeadBy list t
  pub cycle : IsCycleOf list dead c
  pub links : IsCycle list c.tasks c.events

-- what the statuses tell of task t: the cycle that explains its death, where it is dead by them
abbrev pub IsOutcome : List Status → ℕ → Option Cycle → Type 0
IsOutcome list t found = MatchOption found (IsDeadBy list t → ⊥) (ExplainsDeath list t)

-- of a task the statuses tell one thing, whichever graph of them is asked
abbrev pub OneOutcome : Type 0
OneOutcome = (list : List Status) (t : ℕ) (a b : Option Cycle) → IsInOrder list → IsOutcome list t a → IsOutcome list t b → a ≡ b

-- the statuses as they would be if task t had published the event of the await at which it stands, with the phases on the phasers awaited then
abbrev pub supposed_statuses : WorldValue → ℕ → Event → List Status
supposed_statuses w t e = awaited_statuses w.plan (if_published (state_of w) t e)

-- task t of the plan stands at an await, and nobody is dead
pub record IsBeforeStep (w : WorldValue) (t : ℕ) : Type 0 where
  pub task : t < length w.plan.parents
  pub stands : (e : Event) × IsAtAwaitOf w t e
  pub nobody : NobodyDead (state_of w)

-- task t stood at its await of the event, where it would not be dead, and has published it
pub record IsPublished (old new : WorldValue) (t : ℕ) (e : Event) : Type 0 where
  pub before : IsAtAwaitOf old t e
  pub alive : WouldBeDead (state_of old) t e → ⊥
  pub step : IsWorldStep old new t

-- task t stood at an await where it would be dead, as the cycle explains, in which it stands, and has been refused and has left all its phasers
pub record IsRefused (old new : WorldValue) (t : ℕ) (c : Cycle) : Type 0 where
  pub event : Event
  pub before : IsAtAwaitOf old t event
  pub dead : WouldBeDead (state_of old) t event
  pub refusal : MakesRefusal old new t
  pub cycle : ExplainsDeath (supposed_statuses old t event) t c
  pub stands : Contains c.tasks (record { 0 = t })

-- what was decided on the await of task t, and what it made of the world
abbrev pub IsDecision : WorldValue → WorldValue → ℕ → Decision → Type 0
IsDecision old new t (Published e) = IsPublished old new t e
IsDecision old new t (Refused c) = IsRefused old new t c

-- task t has made its next event, which is no block
pub record MakesOtherEvent (old new : WorldValue) (t : ℕ) : Type 0 where
  pub step : IsWorldStep old new t
  pub other : (aim : Aim) → step.action ≢ Blocks aim

-- task t has gone on as a run does that avoids deadlock: by a decision at an await, and else by the next event of its code
abbrev pub HasGoneOn : WorldValue → WorldValue → ℕ → Type 0
HasGoneOn old new t = ((d : Decision) × IsDecision old new t d) ⊎ MakesOtherEvent old new t
