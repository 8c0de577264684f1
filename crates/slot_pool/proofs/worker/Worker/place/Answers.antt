use Rattle.std.proofs.Common.{◌+◌, ◌<◌, eqb, sym, ap, subst, arith}
use prog.Atomic.{either}
use mathlib.Core.Option.{none}
use Rattle.atomic_table.specs.Seated.{TableId}
use Rattle.atomic_table.specs.Table.{Allows, step}
use Rattle.slot_pool.specs.inside.Rule.{PoolHolds}
use Rattle.slot_pool.specs.calls.Steps.{HasBegun}
use Rattle.slot_pool.proofs.Claiming.{begins}
use Rattle.slot_pool.proofs.Standing.{at_table, found_at_work, placing_at_work}
use Rattle.slot_pool.proofs.worker.Worker.place.Goals as goal

pub compare_exchange-found-requires : goal.compare_exchange-found-requires
compare_exchange-found-requires g c =
    let t = c.id-slot.result.0 in
    let (table, within, small) = at_table t (ap (λ h. h.table) c.self.view_is) c.pool.view_is c.pool.invariant c.requires.made
    (omega (arith, c.id-slot.ensures, c.requires.task)) in
    let key = c.pool.inside.slots.shared.key in
    let slots = c.pool.inside.slots.shared.table_id.slots in
    let id = c.self.inside.place.id in
    let me = c.self.inside.place.me in (
      table,
      within,
      subst (λ k. Allows (PoolHolds g.R.Named.number key) slots id me t (λ n. either (eqb n 0) (k + 2) n) (HasBegun (step slots t 0 (k + 2) none) me)) (sym c.from-mine.ensures)
          (begins g.R.Named.number key slots id c.self.inside.number t me c.self.invariant.0.alone small),
    )

pub invariant_of-self : goal.invariant_of-self
invariant_of-self g c =
    let after = c.compare_exchange-found.new.seat in
    found_at_work c.self.inside.place.table_id after.table_id c.compare_exchange-found.ensures.0 c.self.inside.number c.self.inside.place.me after.me _ _ c.self.invariant _ _
    (c.compare_exchange-found.ensures.2.refused c.if-found-ne0.true)

pub invariant_of-self-2 : goal.invariant_of-self-2
invariant_of-self-2 g c =
    let after = c.compare_exchange-found.new.seat in
    let t = c.id-slot.result.0 in
    let (table, within, small) = at_table t (ap (λ h. h.table) c.self.view_is) c.pool.view_is c.pool.invariant c.requires.made
    (omega (arith, c.id-slot.ensures, c.requires.task)) in
    placing_at_work c.self.inside.place.table_id after.table_id c.compare_exchange-found.ensures.0 c.self.inside.number c.self.inside.place.me after.me _ _ c.self.invariant t
    (subst (λ (i : TableId). t < i.words) (sym table) within) (c.compare_exchange-found.ensures.2.placed c.if-found-ne0.false).1
