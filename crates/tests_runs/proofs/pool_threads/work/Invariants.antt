use Rattle.std.proofs.Common.{◌≡◌, []}
use Rattle.slot_pool.specs.calls.PoolValues.{IsSameWorker}
use Rattle.tests_runs.proofs.pool_threads.work.Given as goal

abbrev pub invariant-loop-claim : goal.invariant-loop-claim
invariant-loop-claim l = IsSameWorker l.initial.worker l.worker × (l.worker.view.has ≡ [])
