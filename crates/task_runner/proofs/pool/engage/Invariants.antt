use Rattle.std.proofs.Common.{◌≡◌}
use Rattle.task_runner.proofs.pool.engage.Given as goal

abbrev pub invariant-loop-worker : goal.invariant-loop-worker
invariant-loop-worker g l = l.engaged.items ≡ l.yielded
