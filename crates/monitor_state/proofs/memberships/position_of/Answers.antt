use Rattle.std.proofs.Common.{◌≡◌, length, rules, arith}
use Rattle.monitor_state.specs.inside.PhaserLists.{is_of_phaser}
use Rattle.monitor_state.proofs.OnePassing.{none_at_places}
use Rattle.monitor_state.proofs.memberships.position_of.Goals as goal

pub returns-clause-none : goal.returns-clause-none
returns-clause-none c =
    let items = c.args.items.now in
    let at_end : c.loop-at.at ≡ length items = search rules in
    none_at_places (is_of_phaser c.args.p.now) items (λ k d within. c.loop-at.invariant k d (omega arith))
