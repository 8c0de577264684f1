-- Whether one of the numbers below a bound passes a test, by the list of what is given for them.
use Rattle.std.proofs.Common.{◌≡◌, ◌∙◌, ◌<◌, ◌||◌, ◌++◌, ℕ, zero, suc, Bool, true, false, List, [], ◌∷◌, ap, arith, inl, inr, subst, sym}
use mathlib.Core.Bool.{or-false, or_assoc}
use Rattle.std.specs.List.{list_any}
use Rattle.std.proofs.lemmas.Bool.{both_ways, cases_lt, or_cases, or_parts, true_from_ne_false}
use Rattle.armus_base.specs.Finals.{list_below}

module _ {A : Type 0} (passes : A → Bool) where
  any_more : (xs : List A) (x : A) → list_any passes (xs ++ x ∷ []) ≡ (list_any passes xs || passes x)
  any_more [] x = or-false (passes x)
  any_more (y ∷ ys) x = ap (λ (b : Bool). passes y || b) (any_more ys x) ∙ sym (or_assoc (passes y) (list_any passes ys) (passes x))

  module _ (f : ℕ → A) where
    -- one that passes is below the bound
    pub some_below : (n : ℕ) → list_any passes (list_below f n) ≡ true → (t : ℕ) × (t < n) × (passes (f t) ≡ true)
    some_below zero e = absurd (cc)
    some_below (suc n) e =
        elim (or_cases (list_any passes (list_below f n)) (passes (f n)) (sym (any_more (list_below f n) (f n)) ∙ e)) [
          | inl before ↦ let found = some_below n before in (found.0, omega arith, found.2)
          | inr here ↦ (n, omega arith, here)
        ]

    -- or none passes
    pub none_below : (n : ℕ) → list_any passes (list_below f n) ≡ false → (t : ℕ) → t < n → passes (f t) ≡ false
    none_below zero e t l = absurd (omega arith)
    none_below (suc n) e t l =
        let none = or_parts (list_any passes (list_below f n)) (passes (f n)) (sym (any_more (list_below f n) (f n)) ∙ e) in
        elim (cases_lt t n) [
          | inl before ↦ none_below n none.0 t before
          | inr here ↦ let same : n ≡ t = omega arith in subst (λ k. passes (f k) ≡ false) same none.1
        ]

    -- where one passes that is below, this is so of the list
    pub any_below : (n t : ℕ) → t < n → passes (f t) ≡ true → list_any passes (list_below f n) ≡ true
    any_below n t l on = true_from_ne_false (list_any passes (list_below f n)) (λ none. both_ways (passes (f t)) (none_below n none t l) on)
