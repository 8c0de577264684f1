-- What a world keeps of each task.
use Rattle.std.specs.Prelude.{◌≡◌, ℕ, ◌+◌, ◌≤◌, Bool, true, false, Option, is_some, length, if◌then◌else◌}
use Rattle.armus_base.specs.declared.event.Event.{Event}
use Rattle.armus_base.specs.Plans.{Plan, code_of}
use Rattle.armus_base.specs.States.{State}
use Rattle.pl_core.specs.declared.task.TaskRecord.{TaskRecord}
use Rattle.pl_core.specs.Tasks.{actions_before}

-- the event on which a task is published, or at which it is refused
abbrev pub event_in : State → ℕ → Bool → Option Event
event_in s t true = s.refused t
event_in s t false = s.published t

-- a published task has made one action of its op
abbrev pub begun : TaskRecord → ℕ
begun task = if task.place.refused then 0 else (if is_some task.event then 1 else 0)

-- what is kept of task t is what the state says of it, and its place
pub record IsKeptOf (plan : Plan) (s : State) (t : ℕ) (task : TaskRecord) : Type 0 where
  pub forked : task.forked ≡ s.forked t
  pub event : task.event ≡ event_in s t task.place.refused
  pub within : task.op ≤ length (code_of plan t)
  pub events : task.place.events ≡ actions_before (code_of plan t) task.op + begun task
