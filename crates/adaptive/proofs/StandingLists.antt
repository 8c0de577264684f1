-- The standings of a list, status by status, and in order.
use Rattle.std.proofs.Common.{◌≡◌, ℕ, zero, suc, ◌+◌, ◌<◌, false, List, [], ◌++◌, length, refl, sym, ap, ◌∙◌, subst, inl, inr, arith, get_or, Ordering, Less, Equal, Greater}
use Rattle.std.specs.Prelude.{Contains, ◌↔◌, map}
use Rattle.std.specs.List.Sorted.{IsPermutation, IsSorted}
use Rattle.std.specs.Ordering.{is_lt, ordering_then, nat_cmp}
use Rattle.std.proofs.lemmas.Bool.{cases_eq}
use Rattle.std.proofs.lemmas.Cmp.{ranked}
use Rattle.std.proofs.lemmas.List.{get_or_default}
use Rattle.std.proofs.lemmas.List.Elements.{Contains-append_cases, Contains-append_left, Contains-append_right}
use Rattle.std.proofs.lemmas.List.Sorted.{Contains-permutation, IsPermutation-sym}
use Rattle.armus_base.specs.declared.event.Event.{Event}
use Rattle.armus_base.specs.declared.status.Member.{Member}
use Rattle.armus_base.specs.declared.status.Status.{Status}
use Rattle.armus_base.proofs.Elements.{nothing_in_nil}
use Rattle.dep_state.proofs.DeadSets.{Contains-from_map, Contains-map}
use Rattle.adaptive.specs.declared.standings.PhaseStanding.{PhaseStanding}
use Rattle.adaptive.specs.inside.Standings.{AreStandingsOf, HasStanding, StandingsNeverFall, standing_at}
use Rattle.dep_state.specs.inside.Made.{NotAfter}
use Rattle.dep_state.proofs.DistinctEvents.{by_orders}

standing : ℕ → ℕ → ℕ → PhaseStanding
standing k p n = record { at = record { p = record { 0 = p }; n = n }; status = k }

member : ℕ → ℕ → Member
member p n = record { p = record { 0 = p }; n = n }

-- these are the standings of the statuses below i
abbrev pub AreBelow : List Status → ℕ → List PhaseStanding → Type 0
AreBelow ss i xs = (k p n : ℕ) → Contains xs (record { at = record { p = record { 0 = p }; n = n }; status = k }) ↔ ((k < i) × HasStanding ss k p n)

pub none_below : (ss : List Status) → AreBelow ss 0 []
none_below ss k p n = (λ m. absurd (nothing_in_nil _ m), λ h. absurd (let l = h.0 in omega arith))

module _ (ss : List Status) (i : ℕ) (s : Status) (inside : i < length ss) (is : s ≡ get_or ss i s) (xs : List PhaseStanding) (below : AreBelow ss i xs) where
  here : (d : Status) → get_or ss i d ≡ s
  here d = get_or_default ss i d s inside ∙ sym is

  same_member : (m : Member) (p n : ℕ) → m.p.0 ≡ p → m.n ≡ n → m ≡ member p n
  unfolding member
  same_member m p n e f = ap (λ q. member q m.n) e ∙ ap (λ j. member p j) f

  pub one_more : AreBelow ss (i + 1) (xs ++ map (standing_at i) s.phases)
  unfolding member standing
  one_more k p n = (
    λ c. elim (Contains-append_cases xs (map (standing_at i) s.phases) _ c) [
      | inl before ↦ let old = (below k p n).0 before in (omega (arith, old.0), old.1)
      | inr new ↦
          let from = Contains-from_map (standing_at i) s.phases _ new in
          let same : i ≡ k = ap (λ x. x.status) from.2 in
          let is_member = same_member from.0 p n (ap (λ x. x.at.p.0) from.2) (ap (λ x. x.at.n) from.2) in
          let there : (d : Status) → Contains (get_or ss i d).phases (member p n) =
          λ d. subst (λ v. Contains v.phases (member p n)) (sym (here d)) (subst (λ m. Contains s.phases m) is_member from.1) in
          (omega (arith, same), subst (λ j. HasStanding ss j p n) same (inside, there))
    ],
    λ h. elim (cases_eq k i) [
      | inl same ↦
          let stands = h.1.1 s in
          let now : Contains s.phases (member p n) = subst (λ v. Contains v.phases (member p n)) (here s) (subst (λ j. Contains (get_or ss j s).phases (member p n)) same stands) in
          let new = Contains-map (standing_at i) s.phases (member p n) now in
          Contains-append_right xs (map (standing_at i) s.phases) _ (subst (λ j. Contains (map (standing_at i) s.phases) (standing j p n)) (sym same) new)
      | inr other ↦ Contains-append_left xs (map (standing_at i) s.phases) _ ((below k p n).1 (let l = h.0 in omega arith, h.1))
    ],
  )

pub all_below : (ss : List Status) (i : ℕ) (xs : List PhaseStanding) → i ≡ length ss → AreBelow ss i xs → AreStandingsOf ss xs
all_below ss i xs e below = record { exact = λ k p n. ((λ c. ((below k p n).0 c).1), λ h. (below k p n).1 (let l = h.0 in omega (arith, e), h)) }

-- in another order they are the same
pub same_standings : (ss : List Status) (xs ys : List PhaseStanding) → IsPermutation xs ys → AreStandingsOf ss xs → AreStandingsOf ss ys
same_standings ss xs ys moved are = record {
  exact = λ k p n. (
    λ c. (are.exact k p n).0 (Contains-permutation ys xs _ (IsPermutation-sym xs ys moved) c),
    λ h. Contains-permutation xs ys _ moved ((are.exact k p n).1 h),
  );
}

-- what is no less by one order and then another is no less by the first
first_of : (o q : Ordering) → is_lt (ordering_then o q) ≡ false → is_lt o ≡ false
first_of Less q e = absurd cc
first_of Equal q e = refl
first_of Greater q e = refl

not_after_same : (a : Event) → NotAfter a a
not_after_same a = inr (refl, omega arith)

not_after_trans : (a b c : Event) → NotAfter a b → NotAfter b c → NotAfter a c
not_after_trans a b c (inl l) (inl m) = inl (omega arith)
not_after_trans a b c (inl l) (inr m) = inl (omega (arith, m.0))
not_after_trans a b c (inr l) (inl m) = inl (omega (arith, l.0))
not_after_trans a b c (inr l) (inr m) = inr (l.0 ∙ m.0, omega (arith, l.1, m.1))

module _ (xs : List PhaseStanding) (sorted : IsSorted (λ a b. ordering_then (ordering_then (nat_cmp a.at.p.0 b.at.p.0) (nat_cmp a.at.n b.at.n)) (nat_cmp a.status b.status)) xs) where
  -- none is before the one ahead of it
  next_no_earlier : (k : ℕ) (d : PhaseStanding) → k + 1 < length xs → NotAfter (get_or xs k d).at (get_or xs (k + 1) d).at
  next_no_earlier k d lt =
      let a : PhaseStanding = get_or xs k d in
      let b : PhaseStanding = get_or xs (k + 1) d in
      by_orders a.at b.at (nat_cmp b.at.p.0 a.at.p.0) (nat_cmp b.at.n a.at.n)
      (ranked b.at.p.0 a.at.p.0 (nat_cmp b.at.p.0 a.at.p.0) refl) (ranked b.at.n a.at.n (nat_cmp b.at.n a.at.n) refl)
      (first_of (ordering_then (nat_cmp b.at.p.0 a.at.p.0) (nat_cmp b.at.n a.at.n)) (nat_cmp b.status a.status) (sorted k d (omega arith) lt))

  -- nor before any one ahead of it
  pub sorted_never_falls : StandingsNeverFall xs
  sorted_never_falls i zero d le lt =
      let same : i ≡ 0 = omega arith in
      subst (λ k. NotAfter (get_or xs k d).at (get_or xs 0 d).at) (sym same) (not_after_same (get_or xs 0 d).at)
  sorted_never_falls i (suc j) d le lt =
      elim (cases_eq i (suc j)) [
        | inl same ↦ subst (λ k. NotAfter (get_or xs k d).at (get_or xs (suc j) d).at) (sym same) (not_after_same (get_or xs (suc j) d).at)
        | inr other ↦
            let before = sorted_never_falls i j d (omega arith) (omega arith) in
            let next : NotAfter (get_or xs j d).at (get_or xs (suc j) d).at =
            subst (λ k. NotAfter (get_or xs j d).at (get_or xs k d).at) (let e : j + 1 ≡ suc j = omega arith in e) (next_no_earlier j d (omega arith)) in
            not_after_trans (get_or xs i d).at (get_or xs j d).at (get_or xs (suc j) d).at before next
      ]
