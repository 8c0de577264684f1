use Rattle.task_runner.specs.inside.Pooled.{KeepsWhatItHas}
use Rattle.task_runner.proofs.pool_worker.PoolWorkerWorksOnPoolPooledTask.work.Given as goal

abbrev pub invariant-loop : goal.invariant-loop
invariant-loop g l = KeepsWhatItHas l.initial.self l.self
