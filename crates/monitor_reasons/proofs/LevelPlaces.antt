-- Levels that are kept: whoever has a distance stands in one of them.
use Rattle.std.proofs.Common.{◌≡◌, ℕ, zero, suc, ◌<◌, ◌≤◌, ◌==◌, Bool, true, false, ◌&&◌, Option, Some, List, [], ◌∷◌, ◌+◌, ◌++◌, length, get_or, take, refl, sym, ◌∙◌, ap, subst, inl, inr, arith}
use Rattle.std.specs.Prelude.{Contains, unwrap_or}
use Rattle.std.specs.Global.{Vec}
use Rattle.std.proofs.lemmas.Bool.{cases_Bool, cases_lt}
use Rattle.std.proofs.lemmas.List.{length-append}
use Rattle.armus_base.proofs.Elements.{nothing_in_nil}
use Rattle.monitor_laws.specs.States.{TraceState}
use Rattle.monitor_reasons.specs.declared.distances.FoundDistances.{FoundDistances}
use Rattle.monitor_reasons.specs.declared.reaching.DistanceSearch.{DistanceSearch}
use Rattle.monitor_reasons.specs.inside.Distances.{AreLevels, HaveLevels, IsChainDistance, distance_at, is_before, is_behind, is_distance, is_next, level_at, stops_at}
use Rattle.monitor_reasons.specs.inside.Reaching.{IsFilling}
use Rattle.monitor_reasons.proofs.AtLevels.{IsAtLevel}
use Rattle.monitor_reasons.proofs.FirstWalks.{distance_is}
use Rattle.monitor_reasons.proofs.Levels.{before_from, or_right}
use Rattle.monitor_reasons.proofs.Placing.{place_more}

level_before : (levels : List (Vec ℕ)) (v : Vec ℕ) (k : ℕ) → k < length levels → level_at (levels ++ v ∷ []) k ≡ level_at levels k
level_before [] v k lt = absurd (omega arith)
level_before (x ∷ levels) v zero lt = refl
level_before (x ∷ levels) v (suc k) lt = level_before levels v k (omega arith)

level_last : (levels : List (Vec ℕ)) (v : Vec ℕ) → level_at (levels ++ v ∷ []) (length levels) ≡ v.items
level_last [] v = refl
level_last (x ∷ levels) v = level_last levels v

pub no_levels : (distances : List (Option ℕ)) (levels : List (Vec ℕ)) → length levels ≡ 0 → HaveLevels distances levels
no_levels distances levels none u n within is lt = absurd (omega arith)

-- before a level is searched
pub levels_before : (s : TraceState) (stuck : ℕ → Bool) (f d : ℕ) (search : DistanceSearch) (behind : List ℕ) (levels : List (Vec ℕ)) → IsAtLevel s stuck f d search behind →
    f < length s.list → length levels ≡ d → HaveLevels search.distances.items levels → AreLevels f search.distances.items levels
levels_before s stuck f d search behind levels at listed many have = record {
  have = have;
  far = λ n is. (let far = subst (λ o. IsChainDistance s stuck f d f o) is (at.known.each f listed) in let lt = far.0 in omega arith);
}

module _ (s : TraceState) (stuck : ℕ → Bool) (f d : ℕ) (old new : DistanceSearch) (behind : Vec ℕ) (p : ℕ → Bool) (levels : List (Vec ℕ)) (at : IsAtLevel s stuck f d old behind.items)
    (fills : IsFilling old new d p) (many : length levels ≡ d) (have : HaveLevels old.distances.items levels) where
  abbrev more : List (Vec ℕ)
  more = levels ++ behind ∷ []

  pub one_more : length more ≡ suc d
  one_more = let e = length-append levels (behind ∷ []) in omega arith

  -- one level more is kept
  pub levels_kept : HaveLevels new.distances.items more
  levels_kept u n within is lt = elim (fills.each u) [
    | inr now ↦ absurd (let e = ap (λ o. unwrap_or o 0) (sym now.1 ∙ is) in let long = one_more in omega arith)
    | inl same ↦ elim (cases_lt (suc n) d) [
      | inl less ↦
          subst (λ l. Contains l u) (sym (level_before levels behind (suc n) (omega arith)))
          (have u n (let e = fills.long in omega arith) (sym same ∙ is) (omega arith))
      | inr not_less ↦
          (let long = one_more in
          let e : suc n ≡ d = omega arith in
          let here : level_at more (suc n) ≡ behind.items = ap (level_at more) (e ∙ sym many) ∙ level_last levels behind in
          let next : is_behind old.distances.items f (suc n) u ≡ true =
          or_right ((u == f) && (suc n == 0)) (is_before (distance_at old.distances.items u) (suc n)) (ap (λ o. is_before o (suc n)) (sym same ∙ is) ∙ before_from n) in
          subst (λ l. Contains l u) (sym here)
          (at.all u (let a = fills.long in let b = at.known.long in omega arith) (subst (λ k. is_behind old.distances.items f k u ≡ true) e next)))
    ]
  ]

  -- behind it all are there that a circle needs
  pub levels_after : f < length s.list → AreLevels f new.distances.items more
  levels_after listed = record {
    have = levels_kept;
    far = λ n is. elim (fills.each f) [
      | inr now ↦ (let e = ap (λ o. unwrap_or o 0) (sym now.1 ∙ is) in let long = one_more in omega arith)
      | inl same ↦ (let far = subst (λ o. IsChainDistance s stuck f d f o) (sym same ∙ is) (at.known.each f listed) in let lt = far.0 in let long = one_more in omega arith)
    ];
  }

-- of what was found
pub found_so : (f : ℕ) (distances : Vec (Option ℕ)) (levels : Vec (Vec ℕ)) (found : FoundDistances) → found.distances ≡ distances → found.levels ≡ levels →
    AreLevels f distances.items levels.items → AreLevels f found.distances.items found.levels.items
found_so f distances levels found are_distances are_levels are =
    subst (λ (v : Vec (Option ℕ)). AreLevels f v.items found.levels.items) (sym are_distances)
    (subst (λ (w : Vec (Vec ℕ)). AreLevels f distances.items w.items) (sym are_levels) are)

-- ---- the first of some places

-- no place before it is one of these and passes, and it passes, or is the end
abbrev pub IsLeastOf : (ℕ → Bool) → ℕ → List ℕ → ℕ → Type 0
IsLeastOf p most seen first = (first ≤ most) × (first < most → p first ≡ true) × ((k : ℕ) → Contains seen k → k < first → p k ≡ false)

pub least_of_none : (p : ℕ → Bool) (most : ℕ) → IsLeastOf p most [] most
least_of_none p most = (omega arith, λ lt. absurd (omega arith), λ k within. absurd (nothing_in_nil k within))

module _ (p : ℕ → Bool) (most : ℕ) (places : List ℕ) (i first new : ℕ) (within : i < length places) (least : IsLeastOf p most (take i places) first) where
  -- the next one is it
  pub least_taken : get_or places i 0 < first → p (get_or places i 0) ≡ true → new ≡ get_or places i 0 → IsLeastOf p most (take (i + 1) places) new
  least_taken lt on is = (
    (let below = least.0 in omega arith),
    λ below. subst (λ k. p k ≡ true) (sym is) on,
    λ k there before. elim (place_more places i k within there) [
      | inl seen ↦ least.2 k seen (omega arith)
      | inr here ↦ absurd (omega arith)
    ],
  )

  -- it does not pass
  pub least_passed : p (get_or places i 0) ≡ false → new ≡ first → IsLeastOf p most (take (i + 1) places) new
  least_passed off is = (
    (let below = least.0 in omega arith),
    λ below. subst (λ k. p k ≡ true) (sym is) (least.1 (omega arith)),
    λ k there before. elim (place_more places i k within there) [
      | inl seen ↦ least.2 k seen (omega arith)
      | inr here ↦ subst (λ j. p j ≡ false) here off
    ],
  )

  -- it stands behind
  pub least_before : first ≤ get_or places i 0 → new ≡ first → IsLeastOf p most (take (i + 1) places) new
  least_before behind is = (
    (let below = least.0 in omega arith),
    λ below. subst (λ k. p k ≡ true) (sym is) (least.1 (omega arith)),
    λ k there before. elim (place_more places i k within there) [
      | inl seen ↦ least.2 k seen (omega arith)
      | inr here ↦ absurd (omega arith)
    ],
  )

-- who is not among those of its level before the first is not next
pub none_first : (s : TraceState) (stuck : ℕ → Bool) (distances : List (Option ℕ)) (n t first : ℕ) (level : List ℕ) → ((u : ℕ) → u < length s.list → distance_at distances u ≡ Some n → Contains level u) →
    IsLeastOf (λ k. is_next s stuck distances n t k) (length s.list) level first → (k : ℕ) → k < first → is_next s stuck distances n t k ≡ false
none_first s stuck distances n t first level all least k lt = elim (cases_Bool (is_distance (distance_at distances k) n)) [
  | inl on ↦ least.2 k (all k (let most = least.0 in omega arith) (distance_is (distance_at distances k) n on)) lt
  | inr off ↦ ap (λ b. b && stops_at s stuck k t) off
]
