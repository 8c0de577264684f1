use Rattle.std.proofs.Common.{◌≡◌, ◌<◌, ◌∷◌, ◌++◌, [], List, sym, ap, ◌∙◌, subst}
use Rattle.slot_pool.specs.calls.PoolValues.{IsNumberOf, WorkerValue}
use Rattle.slot_pool.proofs.FirstWorkers.{pair_numbers}
use Rattle.tests_runs.proofs.pool_steps.close.Goals as goal

pub close-requires-clause-all_workers : goal.close-requires-clause-all_workers
close-requires-clause-all_workers c = λ k l.
    let first : WorkerValue = c.args.first.worker in
    let second : WorkerValue = c.args.second.worker in
    let list : c.from_vec.result ≡ first ∷ (second ∷ []) = c.from_vec.ensures.items ∙ c.in-Ok-push.ensures.items
    ∙ ap (λ (ws : List WorkerValue). ws ++ second ∷ []) c.in-Ok.ensures.items in
    subst (λ (ws : List WorkerValue). IsNumberOf ws k) (sym list) (pair_numbers first second c.requires.first.1 c.requires.second.1 k (subst (λ n. k < n) c.requires.workers l))
