use Rattle.std.proofs.Common.{rules, ◌≡◌, IfNone, IfOk, IfSome, Option, ℕ, false, sym, ◌∙◌, subst}
use Rattle.std.specs.Prelude.{length}
use Rattle.std.specs.List.{list_any}
use Rattle.std.specs.List.Sorted.{IsBinarySearchResult, IsSearchInRange}
use Rattle.std.specs.Ordering.{nat_cmp}
use Rattle.std.proofs.lemmas.List.Sorted.{answers_always}
use Rattle.monitor_laws.specs.States.{is_there_as}
use Rattle.monitor_state.specs.inside.FirstPlaces.{IsFirstAt}
use Rattle.monitor_state.specs.inside.Numbers.{HasEachNameOnce, number_by_name}
use Rattle.monitor_state.proofs.ByName.{first_there, never_none, nobody_by_name, ok_at, searched}
use Rattle.monitor_state.proofs.listing.Listing.place_of.Goals as goal

pub returns-then-is_there_at-clause-at : goal.returns-then-is_there_at-clause-at
returns-then-is_there_at-clause-at c =
    first_there c.args.self.now c.requires c.args.t.now c.self.inside.last (c.is_there_at.ensures.within c.if-is_there_at.true) (c.is_there_at.ensures.there c.if-is_there_at.true)

pub returns-in-None-clause-none : goal.returns-in-None-clause-none
returns-in-None-clause-none c =
    let order : HasEachNameOnce c.self.inside.list.items = subst HasEachNameOnce (sym c.self.view_is) c.requires in
    subst (λ us. list_any (is_there_as c.args.t.now) us ≡ false) c.self.view_is
    (nobody_by_name c.self.inside.list.items order (number_by_name c.self.inside.numbers) c.self.invariant.numbers c.args.t.now (sym c.number_by_name.ensures ∙ c.in-None.is))

pub returns-then-is_there_at-2-clause-at : goal.returns-then-is_there_at-2-clause-at
returns-then-is_there_at-2-clause-at c =
    first_there c.args.self.now c.requires c.args.t.now c.likely_place-near.result (c.is_there_at-in-Some.ensures.within c.if-is_there_at-2.true) (c.is_there_at-in-Some.ensures.there c.if-is_there_at-2.true)

pub returns-else-is_there_at-2-clause-at : goal.returns-else-is_there_at-2-clause-at
returns-else-is_there_at-2-clause-at c =
    let order : HasEachNameOnce c.self.inside.list.items = subst HasEachNameOnce (sym c.self.view_is) c.requires in
    let facts = c.binary_search_by_key.ensures in
    let by_number = facts.position (λ u. u.number) (answers_always _ _ _ (λ f a r g called. search rules)) in
    let found =
    searched c.self.inside.list.items order (number_by_name c.self.inside.numbers) c.self.invariant.numbers c.args.t.now c.in-Some.number (sym c.number_by_name.ensures ∙ c.in-Some.is) c.binary_search_by_key.result
    (subst (λ us. IsSearchInRange c.binary_search_by_key.result (length us)) c.deref-in-Some.ensures.value facts.bound)
    (subst (λ us. IsBinarySearchResult (λ u. nat_cmp u.number c.in-Some.number) us c.binary_search_by_key.result) c.deref-in-Some.ensures.value by_number) in
    subst (λ (o : Option ℕ). IfSome o (IsFirstAt (is_there_as c.args.t.now) c.args.self.now)) (sym c.ok.ensures.value)
    (ok_at (IsFirstAt (is_there_as c.args.t.now) c.args.self.now) c.binary_search_by_key.result (subst (λ us. IfOk c.binary_search_by_key.result (IsFirstAt (is_there_as c.args.t.now) us)) c.self.view_is found.at))

pub returns-else-is_there_at-2-clause-none : goal.returns-else-is_there_at-2-clause-none
returns-else-is_there_at-2-clause-none c =
    let order : HasEachNameOnce c.self.inside.list.items = subst HasEachNameOnce (sym c.self.view_is) c.requires in
    let facts = c.binary_search_by_key.ensures in
    let by_number = facts.position (λ u. u.number) (answers_always _ _ _ (λ f a r g called. search rules)) in
    let found =
    searched c.self.inside.list.items order (number_by_name c.self.inside.numbers) c.self.invariant.numbers c.args.t.now c.in-Some.number (sym c.number_by_name.ensures ∙ c.in-Some.is) c.binary_search_by_key.result
    (subst (λ us. IsSearchInRange c.binary_search_by_key.result (length us)) c.deref-in-Some.ensures.value facts.bound)
    (subst (λ us. IsBinarySearchResult (λ u. nat_cmp u.number c.in-Some.number) us c.binary_search_by_key.result) c.deref-in-Some.ensures.value by_number) in
    subst (λ (o : Option ℕ). IfNone o (list_any (is_there_as c.args.t.now) c.args.self.now ≡ false)) (sym c.ok.ensures.value)
    (never_none (list_any (is_there_as c.args.t.now) c.args.self.now ≡ false) c.binary_search_by_key.result found.none)
