-- States in which a task is supposed to be published.
use Rattle.std.specs.Prelude.{Option, Some, None}
use Rattle.armus_base.specs.declared.event.Event.{Event}
use Rattle.armus_base.specs.declared.ids.TaskId.{TaskId}
use Rattle.armus_base.specs.States.{State, if_published}

-- the state as it would be if a task were published on an event, if such a pair is given
abbrev pub with_also : State → Option (TaskId × Event) → State
with_also s None = s
with_also s (Some a) = if_published s a.0.0 a.1
