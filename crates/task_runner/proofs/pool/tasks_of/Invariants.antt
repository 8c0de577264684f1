use Rattle.std.specs.Prelude.{All}
use Rattle.task_runner.specs.inside.Pooled.{IsPooled}
use Rattle.task_runner.proofs.pool.tasks_of.Given as goal

abbrev pub invariant-loop-task : goal.invariant-loop-task
invariant-loop-task g l = All (IsPooled g.N.BoardName.board) l.tasks.items
