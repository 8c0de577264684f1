-- The task of a wildcard whose last line has one name.
use Rattle.std.proofs.Common.{◌≡◌, ℕ, ◌<◌, ◌||◌, ◌==◌, Bool, true, false, List, [], ◌∷◌, length, refl, sym, ◌∙◌, ap, inl, inr, ◌⊎◌, arith}
use Rattle.std.specs.Prelude.{count_by, not}
use Rattle.std.specs.List.{list_any, onto_first, slice_split}
use Rattle.std.proofs.lemmas.Bool.{cases_Bool, or_parts, true≢false}
use Rattle.std.proofs.lemmas.List.Splits.{length-slice_split, slice_split-cons_no, slice_split-cons_yes}
use Rattle.monitor_laws.specs.States.{OneOf}
use Rattle.monitor_words.specs.Stops.{lone_task}
use Rattle.monitor_reasons.specs.inside.Listings.{is_one_word}

module _ (p : ℕ → Bool) where
  one_part : (xs : List ℕ) → list_any p xs ≡ false → slice_split p xs ≡ xs ∷ []
  one_part [] none = refl
  one_part (x ∷ xs) none =
      let parts = or_parts (p x) (list_any p xs) none in
      slice_split-cons_no p x xs parts.0 ∙ ap (λ l. onto_first x l) (one_part xs parts.1)

  -- more than one part
  some_parts : (xs : List ℕ) → list_any p xs ≡ true → 1 < length (slice_split p xs)
  some_parts [] some = absurd (true≢false (sym some))
  some_parts (x ∷ xs) some = by_test (λ later. some_parts xs later) (cases_Bool (p x))
    where
      by_test : (list_any p xs ≡ true → 1 < length (slice_split p xs)) → ((p x ≡ true) ⊎ (p x ≡ false)) → 1 < length (slice_split p (x ∷ xs))
      by_test rest (inl on) =
          let e : length (slice_split p (x ∷ xs)) ≡ length ([] ∷ slice_split p xs) = ap length (slice_split-cons_yes p x xs on) in
          let n = length-slice_split p xs in
          omega arith
      by_test rest (inr off) =
          let later = rest (sym (ap (λ b. b || list_any p xs) off) ∙ some) in
          let a = length-slice_split p xs in
          let e : count_by p (x ∷ xs) ≡ count_by p xs = counts off in
          let b = length-slice_split p (x ∷ xs) in
          omega arith
        where
          counts : p x ≡ false → count_by p (x ∷ xs) ≡ count_by p xs
          counts fails = grind (arith)

no_lone : (names : List (List ℕ)) (tasks : List ℕ) → 1 < length names → lone_task (OneOf names tasks) ≡ []
no_lone [] tasks many = absurd (omega arith)
no_lone (x ∷ []) tasks many = absurd (omega arith)
no_lone (x ∷ y ∷ names) tasks many = refl

-- names that are one word are one name
pub lone_of_one : (names tasks : List ℕ) → is_one_word names ≡ true → lone_task (OneOf (slice_split (λ b. b == 32) names) tasks) ≡ tasks
lone_of_one names tasks one =
    ap (λ ns. lone_task (OneOf ns tasks)) (one_part (λ b. b == 32) names (elim (cases_Bool (list_any (λ b. b == 32) names)) [
      | inl some ↦ absurd (true≢false (sym one ∙ ap not some))
      | inr none ↦ none
    ]))

-- and names that are not are more
pub lone_of_more : (names tasks : List ℕ) → is_one_word names ≡ false → lone_task (OneOf (slice_split (λ b. b == 32) names) tasks) ≡ []
lone_of_more names tasks more =
    no_lone (slice_split (λ b. b == 32) names) tasks (some_parts (λ b. b == 32) names (elim (cases_Bool (list_any (λ b. b == 32) names)) [
      | inl some ↦ some
      | inr none ↦ absurd (true≢false (sym (ap not none) ∙ more))
    ]))
