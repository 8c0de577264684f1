-- The line of a task's steps, which is kept.
use Rattle.std.specs.Prelude.{◌≡◌}
use Rattle.armus_base.specs.declared.ids.TaskId.{TaskId}
use Rattle.schedule.specs.Records.{step_line}
use Rattle.schedule.specs.declared.records.StepLine.{StepLine}

-- it is kept for this task, and is the line of its steps
pub record IsKeptLineOf (t : TaskId) (kept : StepLine) : Type 0 where
  pub task : kept.task ≡ t
  pub line : kept.line.items ≡ step_line t
