-- Who may go on in a world in which a task has left its phasers, by the phases that it had.
use Rattle.std.specs.Prelude.{◌≡◌, ◌<◌, ◌↔◌, ℕ, AllPairs, Contains, List, Option, Some, slice_get}
use Rattle.armus_base.specs.declared.event.Event.{Event}
use Rattle.armus_base.specs.declared.ids.TaskId.{TaskId}
use Rattle.armus_base.specs.Deadlocks.{IsPublishedOn}
use Rattle.armus_base.specs.States.{IsReached}
use Rattle.pl_core.specs.calls.Worlds.{WorldValue, state_of}

-- a task with these phases, one for each phaser, stood on phaser p at a phase below n
abbrev pub StoodBelow : List (Option ℕ) → ℕ → ℕ → Type 0
StoodBelow phases p n = (m : ℕ) × (slice_get phases p ≡ Some (Some m)) × (m < n)

-- task u waits on an event that is reached in the world, and below which a task with these phases stood
pub record IsFreed (w : WorldValue) (phases : List (Option ℕ)) (u : ℕ) : Type 0 where
  pub event : Event
  pub waits : IsPublishedOn (state_of w) u event
  pub stood : StoodBelow phases event.p.0 event.n
  pub reached : IsReached (state_of w) event

-- these are the tasks below n of which this holds, in order of number, each once
pub record AreThoseBelow (Holds : ℕ → Type 0) (n : ℕ) (tasks : List TaskId) : Type 0 where
  pub ascends : AllPairs (λ t u. t.0 < u.0) tasks
  pub exact : (u : TaskId) → Contains tasks u ↔ (u.0 < n × Holds u.0)
