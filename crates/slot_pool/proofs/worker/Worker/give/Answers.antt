use Rattle.std.proofs.Common.{◌≡◌, ◌<◌, ◌∷◌, sym, ap, ◌∙◌, subst}
use Rattle.std.specs.Prelude.{Contains}
use mathlib.Core.Option.{none}
use Rattle.atomic_table.specs.Seated.{TableId}
use Rattle.atomic_table.specs.Table.{Allows, rest, step}
use Rattle.slot_pool.specs.calls.Views.{giving}
use Rattle.slot_pool.specs.inside.Rule.{PoolHolds}
use Rattle.slot_pool.specs.calls.Steps.{GivenBack}
use Rattle.slot_pool.proofs.Members.{contains_first}
use Rattle.slot_pool.proofs.Placing.{gives_home}
use Rattle.slot_pool.proofs.Standing.{given_at_work}
use Rattle.slot_pool.proofs.worker.Worker.give.Goals as goal

pub store-requires : goal.store-requires
store-requires g c =
    let number_of = g.R.Named.number in
    let before = c.exchange-before.ensures in
    let table = before.0 ∙ ap (λ h. h.table) c.self.view_is ∙ c.requires.made.table ∙ sym (ap (λ f. f.table) c.pool.view_is) in
    let t = c.args.slot in
    let named = c.requires.slot in
    let me = c.self.inside.place.me in
    let others = c.requires.has.0 in
    let had : me.0.has ≡ t ∷ others = ap (λ h. h.view.has) c.self.view_is ∙ c.requires.has.1 ∙ ap (λ i. i ∷ others) (sym named) in
    let once : Contains others t → ⊥ = λ d. c.requires.has.2 (subst (Contains others) named d) in
    let key = c.pool.inside.slots.shared.key in
    let slots = c.pool.inside.slots.shared.table_id.slots in
    let id = c.exchange-before.new.seat.id in (
      table,
      subst (λ (i : TableId). t < i.words) (sym before.0 ∙ table) (c.self.invariant.0.inside t (subst (λ ts. Contains ts t) (sym had) (contains_first t others))),
      subst (λ x. Allows (PoolHolds number_of key) slots id x t (λ n. 1) (λ n. GivenBack (step slots t 1 0 none) x 1)) (sym before.3)
          (gives_home number_of key slots id c.self.inside.number t me.0 c.args.item (rest me.1) others c.self.invariant.0.alone had once (sym named)),
    )

pub invariant_of-self : goal.invariant_of-self
invariant_of-self g c =
    let t = c.args.slot in
    let me = c.self.inside.place.me in
    let others = c.requires.has.0 in
    let had : me.0.has ≡ t ∷ others = ap (λ h. h.view.has) c.self.view_is ∙ c.requires.has.1 ∙ ap (λ i. i ∷ others) (sym c.requires.slot) in
    given_at_work c.self.inside.place.table_id c.store.new.seat.table_id (c.store.ensures.0 ∙ c.exchange-before.ensures.0) c.self.inside.number me
    c.store.new.seat.me _ _ c.self.invariant t others had
    (c.store.ensures.2 ∙ ap (λ x. (giving t x.0, rest x.1)) c.exchange-before.ensures.3)
