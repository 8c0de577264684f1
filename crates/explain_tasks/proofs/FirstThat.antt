-- The first number below a bound that passes a test.
use Rattle.std.proofs.Common.{◌≡◌, ℕ, zero, suc, ◌+◌, ◌<◌, ◌≤◌, Bool, true, false, Some, None, List, [], ◌∷◌, ◌++◌, arith, sym, ◌∙◌, ap, inl, inr, subst, add-one}
use Rattle.std.specs.Prelude.{filter, slice_get}
use Rattle.std.proofs.lemmas.Bool.{cases_eq}
use Rattle.std.proofs.lemmas.List.Elements.{filter-append}
use Rattle.indexmap.proofs.SetLemmas.{filter_keep, filter_skip}
use Rattle.armus_base.specs.Finals.{list_below}

-- the first of a list is the first of one that is longer
pub first_stays : {A : Type 0} (xs ys : List A) (v : A) → slice_get xs 0 ≡ Some v → slice_get (xs ++ ys) 0 ≡ Some v
first_stays [] ys v is = absurd (cc)
first_stays (x ∷ xs) ys v is = is

module _ {A : Type 0} (f : ℕ → A) (p : A → Bool) where
  -- none passes below one more
  pub none_more : (n : ℕ) → filter p (list_below f n) ≡ [] → p (f n) ≡ false → filter p (list_below f (n + 1)) ≡ []
  none_more n none fails = subst (λ m. filter p (list_below f m) ≡ []) (sym (add-one n)) (filter_skip p (list_below f n) (f n) fails ∙ none)

  -- the first that passes
  pub first_is : (t n : ℕ) → t < n → filter p (list_below f t) ≡ [] → p (f t) ≡ true → slice_get (filter p (list_below f n)) 0 ≡ Some (f t)
  first_is t zero lt none passes = absurd (omega arith)
  first_is t (suc n) lt none passes =
      elim (cases_eq t n) [
        | inl same ↦
            subst (λ m. slice_get (filter p (list_below f m ++ f m ∷ [])) 0 ≡ Some (f t)) same
            (ap (λ xs. slice_get xs 0) (filter_keep p (list_below f t) (f t) passes ∙ ap (λ xs. xs ++ f t ∷ []) none))
        | inr other ↦
            ap (λ xs. slice_get xs 0) (filter-append p (list_below f n) (f n ∷ []))
            ∙ first_stays (filter p (list_below f n)) (filter p (f n ∷ [])) (f t) (first_is t n (omega arith) none passes)
      ]

  -- none passes at all
  pub none_is : (t n : ℕ) → n ≤ t → t ≤ n → filter p (list_below f t) ≡ [] → slice_get (filter p (list_below f n)) 0 ≡ None
  none_is t n le ge none =
      let same : t ≡ n = omega arith in
      subst (λ m. slice_get (filter p (list_below f m)) 0 ≡ None) same (ap (λ xs. slice_get xs 0) none)
