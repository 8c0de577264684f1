use Rattle.std.proofs.Common.{length}
use Rattle.task_runner.specs.inside.Pooled.{AreForksMarked}
use Rattle.task_runner.proofs.pool_end.are_forks_marked.Given as goal

abbrev pub invariant-ops : goal.invariant-ops
invariant-ops l = AreForksMarked l.cursor l.left l.marks → AreForksMarked l.fn.cursor l.fn.done l.marks

abbrev pub decreases-ops : goal.decreases-ops
decreases-ops l = length l.cursor
