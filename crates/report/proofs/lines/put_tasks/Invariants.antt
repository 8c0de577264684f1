use Rattle.std.proofs.Common.{◌≡◌, ◌++◌}
use Rattle.report.specs.Lines.{task_line}
use Rattle.report.proofs.Texts.{first_texts}
use Rattle.report.proofs.lines.put_tasks.Given as goal

abbrev pub invariant-loop-t : goal.invariant-loop-t
invariant-loop-t l = l.out.items ≡ l.initial.out.items ++ first_texts task_line l.t l.standings
