use Rattle.std.proofs.Common.{◌≡◌, ◌+◌, ◌-◌, sym, ◌∙◌, subst₂, arith}
use Rattle.atomic_table.specs.Table.{opening}
use Rattle.slot_pool.specs.inside.Rule.{PoolHolds}
use Rattle.slot_pool.specs.inside.Views.{opening_view}
use Rattle.slot_pool.proofs.Starts.{opens}
use Rattle.slot_pool.proofs.opening.open.Goals as goal

pub new-requires : goal.new-requires
new-requires g c =
    let number_of = g.R.Named.number in
    let key = c.args.setting.now in
    let n = key.tasks - 1 in
    subst₂ (λ ws hs. PoolHolds number_of key (opening ws hs (opening_view key.workers))) (sym (c.as_slice.ensures.value ∙ c.in-Ok.ensures)) (sym c.in_ok-slots.ensures.ok)
    (opens number_of key n c.args.first (let l = c.requires.counts.0 in let e : key.tasks ≡ key.tasks - 1 + 1 = omega arith in e) c.requires.counts.1 c.requires.first)
