use Rattle.std.proofs.Common.{rules, ◌≡◌, ◌∙◌, ◌&&◌, [], Some, not, sym, ap}
use Rattle.std.specs.Prelude.{◌==◌, bytes_eq, is_some}
use Rattle.std.specs.HashMap.{get_by}
use Rattle.std.specs.Option.{option_copied_mut}
use Rattle.monitor_members.specs.Noted.{has_pair, pairs_at, pairs_of}
use Rattle.monitor_members.proofs.PairMaps.{none_there, taken_after}
use Rattle.monitor_members.proofs.index.take_out.Goals as goal

pub returns-in-None-clause-taken : goal.returns-in-None-clause-taken
returns-in-None-clause-taken c =
    let p = c.args.p.now in
    let none : pairs_at c.args.by_phaser.now p ≡ [] = ap pairs_of (sym c.get_mut.ensures.value ∙ ap option_copied_mut c.in-None.is) in
    λ q n j.
    ap (λ m. has_pair (pairs_at m q) n j) c.get_mut.follows.holds-at-none ∙ none_there p c.args.by_phaser.now none c.args.m c.args.k q n j

pub returns-in-Some-clause-taken : goal.returns-in-Some-clause-taken
returns-in-Some-clause-taken c =
    let p = c.args.p.now in
    let found : get_by (λ k. bytes_eq p k.items) c.args.by_phaser.now ≡ Some c.in-Some.pairs.now = search rules in
    let updates = (c.get_mut.follows.holds c.take_pair.new.pairs).3 (ap is_some found) in
    taken_after p c.args.by_phaser.now (c.get_mut.follows.lender c.take_pair.new.pairs) (Some c.take_pair.new.pairs) updates c.args.m c.args.k
    (λ n j. c.take_pair.ensures n j ∙ ap (λ o. has_pair (pairs_of o) n j && not (c.args.m == n && c.args.k == j)) (sym found))
