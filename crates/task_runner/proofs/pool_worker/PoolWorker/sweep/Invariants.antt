use Rattle.task_runner.specs.inside.Pooled.{KeepsWhatItHas}
use Rattle.task_runner.proofs.pool_worker.PoolWorker.sweep.Given as goal

abbrev pub invariant-loop-t : goal.invariant-loop-t
invariant-loop-t g l = KeepsWhatItHas l.initial.self l.self
