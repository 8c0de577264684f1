-- Lists of which one element passes a test.
use Rattle.std.proofs.Common.{◌≡◌, ℕ, zero, suc, ◌<◌, Bool, true, false, Some, None, List, [], ◌∷◌, length, get_or, take, drop, set, map, refl, sym, ◌∙◌, ap, inl, inr, ◌⊎◌, arith}
use Rattle.std.specs.Prelude.{filter, not, if◌then◌else◌, find, ◌||◌}
use Rattle.std.specs.List.{list_any, remove}
use Rattle.std.proofs.lemmas.Bool.{cases_Bool, or_parts, cond-true, cond-false}
use Rattle.monitor_state.specs.inside.FirstPlaces.{IsFirstAt}

module _ {A : Type 0} (p : A → Bool) where
  pub first_tail : (x : A) (xs : List A) (i : ℕ) → IsFirstAt p (x ∷ xs) (suc i) → IsFirstAt p xs i
  first_tail x xs i first =
      record { within = let w = first.within in omega arith; before = λ k d within. first.before (suc k) d (omega arith); here = λ d. first.here d }

  -- none passes where none does at any place
  pub none_at_places : (xs : List A) → ((k : ℕ) (d : A) → k < length xs → p (get_or xs k d) ≡ false) → list_any p xs ≡ false
  none_at_places [] none = refl
  none_at_places (x ∷ xs) none =
      ap (λ b. b || list_any p xs) (none 0 x (omega arith)) ∙ none_at_places xs (λ k d within. none (suc k) d (omega arith))

  -- nobody passes before
  pub none_before : (xs : List A) (i : ℕ) → IsFirstAt p xs i → list_any p (take i xs) ≡ false
  none_before [] i first = let w = first.within in absurd (omega arith)
  none_before (x ∷ xs) zero first = refl
  none_before (x ∷ xs) (suc i) first =
      let here : p x ≡ false = first.before 0 x (omega arith) in
      ap (λ b. b || list_any p (take i xs)) here ∙ none_before xs i (first_tail x xs i first)

  -- the first that passes is found
  pub found_first : (xs : List A) (i : ℕ) (d : A) → IsFirstAt p xs i → find p xs ≡ Some (get_or xs i d)
  found_first [] i d first = let w = first.within in absurd (omega arith)
  found_first (x ∷ xs) zero d first = cond-true (p x) (Some x) (find p xs) (first.here d)
  found_first (x ∷ xs) (suc i) d first =
      cond-false (p x) (Some x) (find p xs) (first.before 0 x (omega arith)) ∙ found_first xs i d (first_tail x xs i first)

  pub found_none : (xs : List A) → list_any p xs ≡ false → find p xs ≡ None
  found_none [] none = refl
  found_none (x ∷ xs) none =
      let parts = or_parts (p x) (list_any p xs) none in
      cond-false (p x) (Some x) (find p xs) parts.0 ∙ found_none xs parts.1

  -- where none passes nothing is changed and nothing left out
  pub none_mapped : (f : A → A) (xs : List A) → list_any p xs ≡ false → map (λ x. if p x then f x else x) xs ≡ xs
  none_mapped f [] none = refl
  none_mapped f (x ∷ xs) none =
      let parts = or_parts (p x) (list_any p xs) none in
      let rest = none_mapped f xs parts.1 in
      let this = cond-false (p x) (f x) x parts.0 in
      cc

  pub none_left_out : (xs : List A) → list_any p xs ≡ false → filter (λ x. not (p x)) xs ≡ xs
  none_left_out [] none = refl
  none_left_out (x ∷ xs) none =
      let parts = or_parts (p x) (list_any p xs) none in
      let rest = none_left_out xs parts.1 in
      cond-true (not (p x)) (x ∷ filter (λ y. not (p y)) xs) (filter (λ y. not (p y)) xs) (ap not parts.0) ∙ ap (λ (l : List A). x ∷ l) rest

  -- the first that passes is the only one: the change of all is its change, and all without those that pass is the list without it
  pub one_mapped : (f : A → A) (xs : List A) (i : ℕ) (d : A) → IsFirstAt p xs i → list_any p (drop (suc i) xs) ≡ false → map (λ x. if p x then f x else x) xs ≡ set xs i (f (get_or xs i d))
  one_mapped f [] i d first none = refl
  one_mapped f (x ∷ xs) zero d first none =
      let rest = none_mapped f xs none in
      let this = cond-true (p x) (f x) x (first.here d) in
      cc
  one_mapped f (x ∷ xs) (suc i) d first none =
      let rest = one_mapped f xs i d (first_tail x xs i first) none in
      let this = cond-false (p x) (f x) x (first.before 0 x (omega arith)) in
      cc

  pub one_left_out : (xs : List A) (i : ℕ) → IsFirstAt p xs i → list_any p (drop (suc i) xs) ≡ false → filter (λ x. not (p x)) xs ≡ remove xs i
  one_left_out [] i first none = let w = first.within in absurd (omega arith)
  one_left_out (x ∷ xs) zero first none =
      cond-false (not (p x)) (x ∷ filter (λ y. not (p y)) xs) (filter (λ y. not (p y)) xs) (ap not (first.here x)) ∙ none_left_out xs none
  one_left_out (x ∷ xs) (suc i) first none =
      let rest = one_left_out xs i (first_tail x xs i first) none in
      cond-true (not (p x)) (x ∷ filter (λ y. not (p y)) xs) (filter (λ y. not (p y)) xs) (ap not (first.before 0 x (omega arith))) ∙ ap (λ (l : List A). x ∷ l) rest

  -- where some pass, one is the first
  pub first_place : (xs : List A) → list_any p xs ≡ true → (i : ℕ) × IsFirstAt p xs i
  first_place [] some = absurd (let e : false ≡ true = some in cc)
  first_place (x ∷ xs) some = by_test (λ later. first_place xs later) (cases_Bool (p x))
    where
      by_test : (list_any p xs ≡ true → (i : ℕ) × IsFirstAt p xs i) → ((p x ≡ true) ⊎ (p x ≡ false)) → (i : ℕ) × IsFirstAt p (x ∷ xs) i
      by_test rest (inl on) = (0, record { within = omega arith; before = λ k d below. absurd (omega arith); here = λ d. on })
      by_test rest (inr off) =
          let later = rest (sym (ap (λ b. b || list_any p xs) off) ∙ some) in (
            suc later.0,
            record {
              within = let w = later.1.within in omega arith;
              before = λ k d below. before_at k d later.0 off later.1 below;
              here = λ d. later.1.here d;
            },
          )
        where
          before_at : (k : ℕ) (d : A) (i : ℕ) → p x ≡ false → IsFirstAt p xs i → k < suc i → p (get_or (x ∷ xs) k d) ≡ false
          before_at zero d i off first below = off
          before_at (suc k) d i off first below = first.before k d (omega arith)
