use Rattle.std.proofs.Common.{rules, ◌≡◌, ◌⊎◌, Err, sym, subst, inl, inr}
use Rattle.std.specs.Prelude.{◌↔◌, Contains, length}
use Rattle.std.specs.List.{insert}
use Rattle.std.specs.List.Sorted.{IsBinarySearchResult, IsSearchInRange}
use Rattle.std.specs.Ordering.{nat_cmp}
use Rattle.monitor_state.specs.inside.Players.{NumbersClimb}
use Rattle.monitor_state.proofs.Climbing.{climbs_with, put_from, put_here, put_kept}
use Rattle.monitor_state.proofs.players.put_in_order.Goals as goal

pub returns-in_ok-insert-in-Err-clause-climb : goal.returns-in_ok-insert-in-Err-clause-climb
returns-in_ok-insert-in-Err-clause-climb c =
    let ns = c.args.numbers.now.items in
    let put : c.insert.new.self.items ≡ insert ns c.in-Err.at c.args.number = search rules in
    let within : IsSearchInRange (Err c.in-Err.at) (length ns) = subst (λ l. IsSearchInRange (Err c.in-Err.at) (length l)) c.deref.ensures.value c.in-Err.ensures.bound in
    let parted : IsBinarySearchResult (λ m. nat_cmp m c.args.number) ns (Err c.in-Err.at) = subst (λ l. IsBinarySearchResult (λ m. nat_cmp m c.args.number) l (Err c.in-Err.at)) c.deref.ensures.value c.in-Err.ensures.position in
    subst NumbersClimb (sym put) (climbs_with ns c.requires c.args.number c.in-Err.at within parted)

pub returns-in_ok-insert-in-Err-clause-put : goal.returns-in_ok-insert-in-Err-clause-put
returns-in_ok-insert-in-Err-clause-put c =
    let ns = c.args.numbers.now.items in
    let put : c.insert.new.self.items ≡ insert ns c.in-Err.at c.args.number = search rules in
    λ n.
    subst (λ l. Contains l n ↔ (Contains ns n ⊎ (n ≡ c.args.number))) (sym put) (
      λ within. put_from ns c.in-Err.at c.args.number n within,
      λ some. elim some [
        | inl old ↦ put_kept ns c.in-Err.at c.args.number n old
        | inr new ↦ subst (Contains (insert ns c.in-Err.at c.args.number)) (sym new) (put_here ns c.in-Err.at c.args.number)
      ],
    )
