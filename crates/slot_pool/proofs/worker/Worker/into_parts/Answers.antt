use Rattle.std.proofs.Common.{sym, ap, ◌∙◌, subst}
use Rattle.std.specs.Vec.{vec_capacity}
use Rattle.atomic_table.specs.Seated.{TableId}
use Rattle.slot_pool.specs.calls.PoolValues.{WorkerValue}
use Rattle.slot_pool.specs.inside.Workers.{HasRoom}
use Rattle.slot_pool.proofs.worker.Worker.into_parts.Goals as goal

pub returns-clause-number : goal.returns-clause-number
returns-clause-number g c = (
  c.self.inside.number,
  ap (λ (h : WorkerValue). h.view.numbers) (sym c.self.view_is) ∙ c.self.invariant.0.alone,
  subst (λ (i : TableId). HasRoom i.words c.self.inside.number c.self.inside.entries.items (vec_capacity c.self.inside.entries))
      (ap (λ (h : WorkerValue). h.table) c.self.view_is) c.self.invariant.1,
)
