use Rattle.std.proofs.Common.{rules, ◌≡◌, ◌∙◌, ◌||◌, ◌&&◌, [], Some, sym, ap}
use Rattle.std.specs.Prelude.{◌==◌, bytes_eq, is_some}
use Rattle.std.specs.HashMap.{get_by}
use Rattle.std.specs.Option.{option_copied_mut}
use Rattle.monitor_members.specs.Noted.{has_pair, is_here, pairs_at, pairs_of}
use Rattle.monitor_members.proofs.PairMaps.{noted_after, on_err, same_after}
use Rattle.monitor_members.proofs.index.PhaserIndex.insert.Goals as goal

pub returns-in_err-put_pair-in-Some-clause-kept : goal.returns-in_err-put_pair-in-Some-clause-kept
returns-in_err-put_pair-in-Some-clause-kept c =
    let p = c.args.p.now in
    let found : get_by (λ k. bytes_eq p k.items) c.args.self.now.by_phaser ≡ Some c.in-Some.pairs.now = search rules in
    let updates = (c.get_mut.follows.holds c.put_pair.new.pairs).3 (ap is_some found) in
    let kept = c.in_err-put_pair-in-Some.ensures.kept in
    on_err c.from_residual.result _ (same_after p c.args.self.now.by_phaser (c.get_mut.follows.lender c.put_pair.new.pairs) (Some c.put_pair.new.pairs) updates
    (λ n j. ap (λ l. has_pair l n j) (kept ∙ ap pairs_of (sym found))))

pub returns-in_ok-put_pair-in-Some-clause-noted : goal.returns-in_ok-put_pair-in-Some-clause-noted
returns-in_ok-put_pair-in-Some-clause-noted c =
    let p = c.args.p.now in
    let found : get_by (λ k. bytes_eq p k.items) c.args.self.now.by_phaser ≡ Some c.in-Some.pairs.now = search rules in
    let updates = (c.get_mut.follows.holds c.put_pair.new.pairs).3 (ap is_some found) in
    noted_after p c.args.self.now.by_phaser (c.get_mut.follows.lender c.put_pair.new.pairs) (Some c.put_pair.new.pairs) updates c.args.m c.args.k
    (λ n j. c.in_ok-put_pair-in-Some.ensures.put n j ∙ ap (λ o. has_pair (pairs_of o) n j || (c.args.m == n && c.args.k == j)) (sym found))

pub returns-in_ok-insert-in-None-clause-noted : goal.returns-in_ok-insert-in-None-clause-noted
returns-in_ok-insert-in-None-clause-noted c =
    let p = c.args.p.now in
    let old = c.get_mut.follows.lender-at-none in
    let pairs = c.in_ok-pairs-in-None.pairs in
    let name = c.in_ok-name-in-None.name.items in
    let is : name ≡ p = c.in_ok-name-in-None.ensures.items in
    let none : pairs_at old name ≡ [] = ap (pairs_at old) is ∙ ap (λ m. pairs_at m p) c.get_mut.follows.holds-at-none ∙ ap pairs_of (sym c.get_mut.ensures.value ∙ ap option_copied_mut c.in-None.is) in
    λ q n j.
    noted_after name old c.insert.new.self (Some pairs) c.in_ok-insert-in-None.ensures.updates c.args.m c.args.k
    (λ n j. c.in_ok-pairs-in-None.ensures n j ∙ sym (ap (λ l. has_pair l n j || (c.args.m == n && c.args.k == j)) none)) q n j
    ∙ ap (λ m. has_pair (pairs_at m q) n j || is_here name c.args.m c.args.k q n j) c.get_mut.follows.holds-at-none
    ∙ ap (λ l. has_pair (pairs_at c.args.self.now.by_phaser q) n j || is_here l c.args.m c.args.k q n j) is
