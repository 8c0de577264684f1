use Rattle.std.proofs.Common.{◌∙◌, ◌++◌, ◌∷◌, [], List, ap₂}
use Rattle.slot_pool.specs.calls.PoolValues.{WorkerValue}
use Rattle.task_runner.proofs.pool.engage.Goals as goal

pub loop-worker-preserved : goal.loop-worker-preserved
loop-worker-preserved g c =
    c.in_ok-push.ensures.items ∙ ap₂ (λ (ws : List WorkerValue) (w : WorkerValue). ws ++ w ∷ []) c.loop-worker.invariant c.new.ensures
