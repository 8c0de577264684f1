use Rattle.std.proofs.Common.{◌≡◌, ◌∷◌, drop, ap}
use Rattle.std.specs.Prelude.{filter}
use Rattle.armus_base.proofs.Lists.{headed}
use Rattle.monitor_words.specs.Words.{keep_alike}
use Rattle.monitor_words.specs.calls.Values.{group_shown}
use Rattle.monitor_search.specs.Known.{has_stuck_number}
use Rattle.monitor_rows.specs.inside.Lent.{lent_ones}
use Rattle.monitor_rows.proofs.Turning.{turned, turned_left}
use Rattle.monitor_rows.proofs.keepers.next_group.Goals as goal

pub returns-in_ok-push-in-len1-up-clause-groups : goal.returns-in_ok-push-in-len1-up-clause-groups
returns-in_ok-push-in-len1-up-clause-groups c =
    let stuck = has_stuck_number c.args.stuck.now in
    let p = c.args.p.now in
    let x = c.first-item.result.now in
    let xs = lent_ones c.args.keepers.now in
    let is : xs ≡ x ∷ lent_ones (drop 1 c.args.keepers.now) = ap lent_ones (headed c.args.keepers.now c.first-item.result c.in-len1-up.len_at_least c.first-item.is) in
    turned (keep_alike stuck p) x (lent_ones (drop 1 c.args.keepers.now)) xs (lent_ones c.in_ok-names-in-len1-up.field-0.others.items) is c.in_ok-names-in-len1-up.ensures.others
    (group_shown stuck p) c.args.groups.now c.push.new.self c.in_ok-shown_group-in-len1-up.field-0
    (c.in_ok-shown_group-in-len1-up.ensures (filter (keep_alike stuck p x) xs) c.in_ok-names-in-len1-up.ensures.names)
    c.in_ok-push-in-len1-up.ensures.ok

pub returns-in_ok-push-in-len1-up-clause-left : goal.returns-in_ok-push-in-len1-up-clause-left
returns-in_ok-push-in-len1-up-clause-left c =
    let stuck = has_stuck_number c.args.stuck.now in
    let p = c.args.p.now in
    let x = c.first-item.result.now in
    let xs = lent_ones c.args.keepers.now in
    let is : xs ≡ x ∷ lent_ones (drop 1 c.args.keepers.now) = ap lent_ones (headed c.args.keepers.now c.first-item.result c.in-len1-up.len_at_least c.first-item.is) in
    turned_left (keep_alike stuck p) x (lent_ones (drop 1 c.args.keepers.now)) xs (lent_ones c.in_ok-names-in-len1-up.field-0.others.items) is c.in_ok-names-in-len1-up.ensures.others
