use Rattle.std.proofs.Common.{◌≡◌}
use Rattle.task_runner.proofs.pool.dismiss.Given as goal

abbrev pub invariant-loop-worker : goal.invariant-loop-worker
invariant-loop-worker g l = l.dismissed.items ≡ l.yielded
