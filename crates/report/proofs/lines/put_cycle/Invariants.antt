use Rattle.std.proofs.Common.{◌≡◌, ◌++◌, take, codes}
use Rattle.std.specs.List.{flat_map}
use Rattle.report.specs.Words.{task_word}
use Rattle.report.proofs.lines.put_cycle.Given as goal

abbrev pub invariant-loop-task : goal.invariant-loop-task
invariant-loop-task l = l.out.items ≡ l.initial.out.items ++ flat_map (λ t. codes " " ++ task_word t.0) (take l.task-index l.cycle)
