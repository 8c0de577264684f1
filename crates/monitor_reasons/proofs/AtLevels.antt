-- A search at a level, and one level further on.
use Rattle.std.proofs.Common.{◌≡◌, ℕ, zero, suc, ◌<◌, ◌==◌, Bool, true, false, ◌&&◌, Option, Some, None, List, [], ◌∷◌, length, get_or, replicate, refl, sym, ◌∙◌, ap, subst, inl, inr, arith, eq-eqb}
use Rattle.std.specs.Prelude.{All, Contains, bytes_eq, is_some}
use Rattle.std.specs.HashMap.{get_by}
use Rattle.std.specs.List.{list_any}
use Rattle.std.proofs.lemmas.Bool.{and_from, and_parts, cases_Bool, eqb-true, or_cases, true≢false}
use Rattle.std.proofs.lemmas.List.{length-replicate}
use Rattle.std.proofs.lemmas.List.Elements.{Contains-get_or}
use Rattle.armus_base.proofs.Elements.{Contains-cons_cases, Contains-head, nothing_in_nil}
use Rattle.monitor_laws.specs.States.{Participant, TraceState}
use Rattle.monitor_laws.specs.Stuck.{is_phase_below}
use Rattle.monitor_state.proofs.OnePassing.{first_place}
use Rattle.monitor_reasons.specs.declared.reaching.DistanceSearch.{DistanceSearch}
use Rattle.monitor_reasons.specs.inside.Distances.{AreDistances, AreSearched, IsChainDistance, any_below, distance_at, filled, is_before, is_behind, stops_at}
use Rattle.monitor_reasons.specs.inside.Listings.{listing}
use Rattle.monitor_reasons.specs.inside.Reaching.{HavePassedDistances, IsFilling, HasDistance, passed_on}
use Rattle.monitor_reasons.proofs.Levels.{any_below_from, any_below_is, before_from, before_is, before_zero, level_known, or_left, or_right}
use Rattle.monitor_reasons.proofs.Searched.{searched_all, searched_found, searched_stop}

-- distances below d are known, and these are all whose distance is the one before d; none is fresh
pub record IsAtLevel (s : TraceState) (stuck : ℕ → Bool) (f d : ℕ) (search : DistanceSearch) (behind : List ℕ) : Type 0 where
  pub known : AreDistances s stuck f d search.distances.items
  pub passed : HavePassedDistances s.list search
  pub all : (u : ℕ) → u < length s.list → is_behind search.distances.items f d u ≡ true → Contains behind u
  pub are : (u : ℕ) → Contains behind u → (u < length s.list) × (is_behind search.distances.items f d u ≡ true)
  pub none_fresh : search.fresh.items ≡ []

none_at : (n t : ℕ) → distance_at (replicate n None) t ≡ None
none_at zero t = refl
none_at (suc n) zero = refl
none_at (suc n) (suc t) = none_at n t

-- before the first level
pub begun_at : (s : TraceState) (stuck : ℕ → Bool) (f count : ℕ) (search : DistanceSearch) (behind : List ℕ) → f < length s.list → count ≡ length s.list →
    search.distances.items ≡ replicate count None → search.fresh.items ≡ [] → ((q : List ℕ) → passed_on search q ≡ None) → behind ≡ f ∷ [] → IsAtLevel s stuck f 0 search behind
begun_at s stuck f count search behind listed many distances fresh passed is = record {
  known = record {
    long = ap length distances ∙ length-replicate count None ∙ many;
    each = λ t within. subst (λ o. IsChainDistance s stuck f 0 t o) (sym (unknown t)) (λ j lt. absurd (omega arith));
  };
  passed = λ t q n within waits below. absurd (none_below (passed_on search q) n (passed q) below);
  all = λ u within is_so. elim (or_cases ((u == f) && (0 == 0)) (is_before (distance_at search.distances.items u) 0) is_so) [
    | inl here ↦ subst (λ l. Contains l u) (sym is) (subst (λ k. Contains (f ∷ []) k) (sym (eqb-true u f (and_parts (u == f) (0 == 0) here).0)) (Contains-head f []))
    | inr there ↦ absurd (before_zero (distance_at search.distances.items u) there)
  ];
  are = λ u within. elim (Contains-cons_cases f [] u (subst (λ l. Contains l u) is within)) [
    | inl here ↦ subst (λ k. (k < length s.list) × (is_behind search.distances.items f 0 k ≡ true)) here
        (listed, or_left ((f == f) && (0 == 0)) (is_before (distance_at search.distances.items f) 0) (and_from (f == f) (0 == 0) (eq-eqb f f refl) refl))
    | inr there ↦ absurd (nothing_in_nil u there)
  ];
  none_fresh = fresh;
}
  where
    unknown : (t : ℕ) → distance_at search.distances.items t ≡ None
    unknown t = ap (λ l. distance_at l t) distances ∙ none_at count t

    none_below : (o : Option ℕ) (n : ℕ) → o ≡ None → is_phase_below o n ≡ true → ⊥
    none_below o n none below = true≢false (sym below ∙ ap (λ x. is_phase_below x n) none)

module _ (s : TraceState) (stuck : ℕ → Bool) (f d : ℕ) (old new : DistanceSearch) (behind : List ℕ) (at : IsAtLevel s stuck f d old behind) (listed : f < length s.list)
    (fills : IsFilling old new d (λ t. list_any (λ u. stops_at s stuck u t) behind))
    (reached : (t u : ℕ) → t < length s.list → Contains behind u → stops_at s stuck u t ≡ true → HasDistance new t) where
  abbrev level : ℕ → Bool
  level t = any_below (λ u. is_behind old.distances.items f d u && stops_at s stuck u t) (length s.list)

  in_level : (t : ℕ) → list_any (λ u. stops_at s stuck u t) behind ≡ true → level t ≡ true
  in_level t some =
      let m = first_place (λ u. stops_at s stuck u t) behind some in
      let u = get_or behind m.0 0 in
      let is = at.are u (Contains-get_or behind m.0 0 m.1.within) in
      any_below_from (λ u. is_behind old.distances.items f d u && stops_at s stuck u t) (length s.list) u is.0
      (and_from (is_behind old.distances.items f d u) (stops_at s stuck u t) is.1 (m.1.here 0))

  from_level : (t : ℕ) → t < length s.list → level t ≡ true → HasDistance new t
  from_level t within some =
      let m = any_below_is (λ u. is_behind old.distances.items f d u && stops_at s stuck u t) (length s.list) some in
      let parts = and_parts (is_behind old.distances.items f d m.0) (stops_at s stuck m.0 t) m.2 in
      reached t m.0 within (at.all m.0 m.1 parts.0) parts.1

  stays : (o n : Option ℕ) (passes : Bool) → n ≡ o → (passes ≡ true → n ≡ None → ⊥) → n ≡ filled o passes d
  stays None n true same known = absurd (known refl same)
  stays None n false same known = same
  stays (Some k) n passes same known = same

  changes : (o n : Option ℕ) (passes : Bool) → o ≡ None → n ≡ Some d → passes ≡ true → n ≡ filled o passes d
  changes None n true none now on = now
  changes None n false none now on = absurd (true≢false (sym on))
  changes (Some k) n passes none now on = absurd (cc)

  filled_at : (t : ℕ) → t < length old.distances.items → distance_at new.distances.items t ≡ filled (distance_at old.distances.items t) (level t) d
  filled_at t within =
      let listed_t : t < length s.list = subst (λ n. t < n) at.known.long within in
      elim (fills.each t) [
        | inl same ↦ stays (distance_at old.distances.items t) (distance_at new.distances.items t) (level t) same (from_level t listed_t)
        | inr now ↦ changes (distance_at old.distances.items t) (distance_at new.distances.items t) (level t) now.0 now.1 (in_level t now.3)
      ]

  -- the distances of one level more are known
  pub now_known : AreDistances s stuck f (suc d) new.distances.items
  now_known = level_known s stuck f old.distances.items d new.distances.items listed at.known (record { long = fills.long; each = filled_at })

  has_none : (t : ℕ) → t < length s.list → distance_at old.distances.items t ≡ Some d → ⊥
  has_none t within is = let far = subst (λ o. IsChainDistance s stuck f d t o) is (at.known.each t within) in let lt = far.0 in omega arith

  -- and those that are fresh are the next to go from
  pub now_at : (next : DistanceSearch) → next.distances ≡ new.distances → next.passed ≡ new.passed → next.fresh.items ≡ [] → HavePassedDistances s.list new → IsAtLevel s stuck f (suc d) next new.fresh.items
  now_at next distances passed fresh are_passed = record {
    known = subst (λ v. AreDistances s stuck f (suc d) v.items) (sym distances) now_known;
    passed = λ t q n within waits below none.
        are_passed t q n within waits (subst (λ m. is_phase_below (get_by (λ k. bytes_eq q k.now) m) n ≡ true) passed below) (ap (λ v. distance_at v.items t) (sym distances) ∙ none);
    all = λ u within is.
        elim (or_cases ((u == f) && (suc d == 0)) (is_before (distance_at next.distances.items u) (suc d)) is) [
          | inl here ↦ absurd (let e = eqb-true (suc d) 0 (and_parts (u == f) (suc d == 0) here).1 in omega arith)
          | inr there ↦
              (let now : distance_at new.distances.items u ≡ Some d = ap (λ v. distance_at v.items u) (sym distances) ∙ before_is (distance_at next.distances.items u) d there in
              elim (fills.each u) [
                | inl same ↦ absurd (has_none u within (sym same ∙ now))
                | inr fills_it ↦ fills_it.2
              ])
        ];
    are = λ u within. elim (fills.only u within) [
      | inl before ↦ absurd (nothing_in_nil u (subst (λ l. Contains l u) at.none_fresh before))
      | inr now ↦ (
        subst (λ n. u < n) at.known.long now.0,
        or_right ((u == f) && (suc d == 0)) (is_before (distance_at next.distances.items u) (suc d))
            (ap (λ o. is_before o (suc d)) (ap (λ v. distance_at v.items u) distances ∙ now.1) ∙ before_from d),
      )
    ];
    none_fresh = fresh;
  }

-- where nobody is left to go from all is searched
pub nobody_left : (s : TraceState) (stuck : ℕ → Bool) (f d : ℕ) (search : DistanceSearch) (behind : List ℕ) → IsAtLevel s stuck f d search behind → f < length s.list → behind ≡ [] → AreSearched s stuck f search.distances.items
nobody_left s stuck f d search behind at listed none =
    searched_stop s stuck f search.distances.items listed d at.known
    (elim (cases_Bool (any_below (λ u. is_behind search.distances.items f d u) (length search.distances.items))) [
      | inl some ↦ absurd (
          let m = any_below_is (λ u. is_behind search.distances.items f d u) (length search.distances.items) some in
          nothing_in_nil m.0 (subst (λ l. Contains l m.0) none (at.all m.0 (subst (λ n. m.0 < n) at.known.long m.1) m.2)))
      | inr off ↦ off
    ])

-- from a list that is that of the state, and places that are those to go from
module _ (s : TraceState) (stuck : ℕ → Bool) (f d : ℕ) (us : List Participant) (same : us ≡ s.list) (old new : DistanceSearch) (b behind : List ℕ) (is : b ≡ behind)
    (at : IsAtLevel s stuck f d old behind) (listed : f < length s.list) (fills : IsFilling old new d (λ t. list_any (λ u. stops_at (listing us) stuck u t) b))
    (reached : (t u : ℕ) → t < length us → Contains b u → stops_at (listing us) stuck u t ≡ true → HasDistance new t) where
  fills_so : IsFilling old new d (λ t. list_any (λ u. stops_at s stuck u t) behind)
  fills_so =
      subst (λ (l : List Participant). IsFilling old new d (λ t. list_any (λ u. stops_at (listing l) stuck u t) behind)) same
      (subst (λ (x : List ℕ). IsFilling old new d (λ t. list_any (λ u. stops_at (listing us) stuck u t) x)) is fills)

  reached_so : (t u : ℕ) → t < length s.list → Contains behind u → stops_at s stuck u t ≡ true → HasDistance new t
  reached_so =
      subst (λ (l : List Participant). (t u : ℕ) → t < length l → Contains behind u → stops_at (listing l) stuck u t ≡ true → HasDistance new t) same
      (subst (λ (x : List ℕ). (t u : ℕ) → t < length us → Contains x u → stops_at (listing us) stuck u t ≡ true → HasDistance new t) is reached)

  pub next_level : (next : DistanceSearch) → next.distances ≡ new.distances → next.passed ≡ new.passed → next.fresh.items ≡ [] → HavePassedDistances us new → IsAtLevel s stuck f (suc d) next new.fresh.items
  next_level next distances passed fresh are_passed =
      now_at s stuck f d old new behind at listed fills_so reached_so next distances passed fresh (subst (λ (l : List Participant). HavePassedDistances l new) same are_passed)

  pub level_found : is_some (distance_at new.distances.items f) ≡ true → AreSearched s stuck f new.distances.items
  level_found some = searched_found s stuck f new.distances.items listed (suc d) (now_known s stuck f d old new behind at listed fills_so reached_so) some

-- all levels
pub all_levels : (s : TraceState) (stuck : ℕ → Bool) (f d : ℕ) (search : DistanceSearch) (behind : List ℕ) → IsAtLevel s stuck f d search behind → f < length s.list → d ≡ length s.list → AreSearched s stuck f search.distances.items
all_levels s stuck f d search behind at listed all =
    searched_all s stuck f search.distances.items listed (subst (λ k. AreDistances s stuck f k search.distances.items) all at.known)

pub all_within : (n : ℕ) (places : List ℕ) → ((u : ℕ) → Contains places u → u < n) → All (λ u. u < n) places
all_within n places within = λ k d lt. within (get_or places k d) (Contains-get_or places k d lt)

pub empty_is : (xs : List ℕ) → (length xs == 0) ≡ true → xs ≡ []
empty_is [] none = refl
empty_is (x ∷ xs) none = absurd (let e = eqb-true (length (x ∷ xs)) 0 none in omega arith)
