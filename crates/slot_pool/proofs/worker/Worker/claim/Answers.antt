use Rattle.std.proofs.Common.{◌+◌, Some, eqb, sym, ap, ◌∙◌, ◌∷◌, subst}
use prog.Atomic.{either}
use mathlib.Core.Option.{none}
use Rattle.atomic_table.specs.Table.{Allows, rest, step}
use Rattle.slot_pool.specs.inside.Rule.{PoolHolds}
use Rattle.slot_pool.specs.calls.Steps.{Claimed}
use Rattle.slot_pool.proofs.Claiming.{claims}
use Rattle.slot_pool.proofs.Standing.{at_table}
use Rattle.slot_pool.proofs.worker.Worker.claim.Goals as goal

pub compare_exchange-found-requires : goal.compare_exchange-found-requires
compare_exchange-found-requires g c =
    let t = c.args.t.0 in
    let (table, within, small) = at_table t (ap (λ h. h.table) c.self.view_is) c.pool.view_is c.pool.invariant c.requires.made c.requires.task in
    let key = c.pool.inside.slots.shared.key in
    let slots = c.pool.inside.slots.shared.table_id.slots in
    let id = c.self.inside.place.id in
    let me = c.self.inside.place.me in (
      table,
      within,
      subst (λ k. Allows (PoolHolds g.R.Named.number key) slots id me t (λ n. either (eqb n 1) (k + 2) n)
          (Claimed g.R.Named.number (step slots t 1 (k + 2) none) me)) (sym c.from-mine.ensures)
          (claims g.R.Named.number key slots id c.self.inside.number t me c.self.invariant.0.alone small),
    )

pub exchange-requires : goal.exchange-requires
exchange-requires g c =
    let one = c.if-found-ne1.false in
    let told = c.compare_exchange-found.ensures.2.got one in
    let slots = ap (λ m. m.1) told.2 in (
      c.compare_exchange-found.ensures.0
          ∙ (at_table c.args.t.0 (ap (λ h. h.table) c.self.view_is) c.pool.view_is c.pool.invariant c.requires.made c.requires.task).0,
      (Some told.0, slots ∙ ap (λ xs. (c.args.t.0, Some told.0) ∷ rest xs) (sym slots)),
    )
