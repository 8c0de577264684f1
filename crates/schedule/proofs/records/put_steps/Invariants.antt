use Rattle.std.proofs.Common.{◌≡◌, ◌++◌, take}
use Rattle.std.specs.List.{flat_map}
use Rattle.schedule.specs.Records.{step_line}
use Rattle.schedule.specs.inside.StepLines.{IsKeptLineOf}
use Rattle.schedule.proofs.records.put_steps.Given as goal

abbrev pub invariant-loop-task : goal.invariant-loop-task
invariant-loop-task l = record {
  out : l.out.items ≡ l.initial.out.items ++ flat_map step_line (take l.task-index l.journal);
  kept : IsKeptLineOf l.kept.task l.kept;
}
