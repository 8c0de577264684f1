use Rattle.slot_pool.specs.calls.PoolValues.{IsSameWorker}
use Rattle.tests_runs.proofs.pool_steps.play.Given as goal

abbrev pub invariant-loop-text : goal.invariant-loop-text
invariant-loop-text l = IsSameWorker l.initial.first.worker l.first.worker × IsSameWorker l.initial.second.worker l.second.worker
