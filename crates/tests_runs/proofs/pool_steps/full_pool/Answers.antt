use Rattle.std.proofs.Common.{◌≡◌, [], List, sym, subst}
use Rattle.std.specs.Prelude.{All}
use Rattle.slot_pool.specs.calls.PoolValues.{IsNumberOf, IsOfPool, WorkerValue}
use Rattle.slot_pool.proofs.FirstWorkers.{first_idle, first_made, first_numbers}
use Rattle.tests_runs.proofs.pool_steps.full_pool.Goals as goal

pub close-requires-clause-made : goal.close-requires-clause-made
close-requires-clause-made c = subst (All (λ (w : WorkerValue). IsOfPool w c.in-Ok.pool)) (sym c.in-Ok.ensures.workers) (first_made c.in-Ok.pool)

pub close-requires-clause-all_workers : goal.close-requires-clause-all_workers
close-requires-clause-all_workers c = λ k l. subst (λ (ws : List WorkerValue). IsNumberOf ws k) (sym c.in-Ok.ensures.workers) (first_numbers c.in-Ok.pool k l)

pub close-requires-clause-nothing : goal.close-requires-clause-nothing
close-requires-clause-nothing c = subst (All (λ (w : WorkerValue). w.view.has ≡ [])) (sym c.in-Ok.ensures.workers) (first_idle c.in-Ok.pool)
