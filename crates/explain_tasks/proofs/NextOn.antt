-- The first of a list that passes a test, found one by one.
use Rattle.std.proofs.Common.{◌≡◌, ℕ, zero, suc, ◌<◌, Bool, true, false, Some, None, List, [], ◌∷◌, arith, length, get_or, take, ◌∙◌, ap, refl, cond}
use Rattle.std.specs.List.{find}

module _ {A : Type 0} (p : A → Bool) where
  -- the next one passes
  pub found : (xs : List A) (k : ℕ) (d : A) → k < length xs → find p (take k xs) ≡ None → p (get_or xs k d) ≡ true → find p xs ≡ Some (get_or xs k d)
  found [] k d lt none on = absurd (omega arith)
  found (x ∷ xs) zero d lt none on = ap (λ b. cond b (Some x) (find p xs)) on
  found (x ∷ xs) (suc k) d lt none on = step (p x) refl none (λ e. found xs k d (omega arith) e on)
    where
      step : (b : Bool) → p x ≡ b → cond b (Some x) (find p (take k xs)) ≡ None → (find p (take k xs) ≡ None → find p xs ≡ Some (get_or xs k d)) →
          cond (p x) (Some x) (find p xs) ≡ Some (get_or xs k d)
      step true is e more = absurd (cc)
      step false is e more = ap (λ b. cond b (Some x) (find p xs)) is ∙ more e

  -- it does not
  pub not_found : (xs : List A) (k : ℕ) (d : A) → k < length xs → find p (take k xs) ≡ None → p (get_or xs k d) ≡ false → find p (take (suc k) xs) ≡ None
  not_found [] k d lt none off = absurd (omega arith)
  not_found (x ∷ xs) zero d lt none off = ap (λ b. cond b (Some x) None) off
  not_found (x ∷ xs) (suc k) d lt none off = step (p x) refl none (λ e. not_found xs k d (omega arith) e off)
    where
      step : (b : Bool) → p x ≡ b → cond b (Some x) (find p (take k xs)) ≡ None → (find p (take k xs) ≡ None → find p (take (suc k) xs) ≡ None) →
          cond (p x) (Some x) (find p (take (suc k) xs)) ≡ None
      step true is e more = absurd (cc)
      step false is e more = ap (λ b. cond b (Some x) (find p (take (suc k) xs))) is ∙ more e
