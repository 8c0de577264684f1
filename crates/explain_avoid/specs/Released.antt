-- Who may go on where a refused task leaves its phasers.
use Rattle.std.specs.Prelude.{◌<◌, ◌↔◌, ℕ, AllPairs, Contains, List, None}
use Rattle.armus_base.specs.declared.event.Event.{Event}
use Rattle.armus_base.specs.declared.ids.TaskId.{TaskId}
use Rattle.armus_base.specs.Deadlocks.{IsPublishedOn}
use Rattle.armus_base.specs.States.{IsReached, State, updated}

-- the state once task t has left its phasers: it is a member of none, and all else is as it was
abbrev pub when_left : State → ℕ → State
when_left s t = record s { phases = updated s.phases t (λ q. None) }

-- task u is released between these states: in the first it waits on an event that is not reached there, and is in the second
pub record IsReleased (before later : State) (u : ℕ) : Type 0 where
  pub event : Event
  pub waits : IsPublishedOn before u event
  pub unreached : IsReached before event → ⊥
  pub reached : IsReached later event

-- these are the tasks that are released between these states, in order of number, each once
pub record AreReleased (before later : State) (tasks : List TaskId) : Type 0 where
  pub ascends : AllPairs (λ t u. t.0 < u.0) tasks
  pub exact : (u : TaskId) → Contains tasks u ↔ IsReleased before later u.0
