-- The elements of filters, and tests of which one element passes.
use Rattle.std.proofs.Common.{◌≡◌, Bool, true, false, List, [], ◌∷◌, sym, ◌∙◌, ap, subst, inl, inr, ◌⊎◌}
use Rattle.std.specs.Prelude.{Contains, filter, if◌then◌else◌}
use Rattle.std.specs.List.{list_any}
use Rattle.std.proofs.lemmas.Bool.{cases_Bool, or_cases, or_left, or_right}
use Rattle.armus_base.proofs.Elements.{Contains-cons_cases, Contains-head, Contains-tail, nothing_in_nil}

module _ {A : Type 0} (p : A → Bool) where
  -- the elements that pass a test
  pub from_filter : (xs : List A) (s : A) → Contains (filter p xs) s → Contains xs s × p s ≡ true
  from_filter [] s m = absurd (nothing_in_nil s m)
  from_filter (x ∷ xs) s m = by_test (from_filter xs s) (cases_Bool (p x))
    where
      by_test : (Contains (filter p xs) s → Contains xs s × p s ≡ true) → ((p x ≡ true) ⊎ (p x ≡ false)) → Contains (x ∷ xs) s × p s ≡ true
      by_test rest (inl on) =
          elim (Contains-cons_cases x (filter p xs) s (subst (λ v. Contains v s) (ap (λ b. if b then x ∷ filter p xs else filter p xs) on) m)) [
            | inl e ↦ (subst (λ v. Contains (x ∷ xs) v) e (Contains-head x xs), ap p (sym e) ∙ on)
            | inr n ↦ (Contains-tail x xs s (rest n).0, (rest n).1)
          ]
      by_test rest (inr off) =
          (let n = rest (subst (λ v. Contains v s) (ap (λ b. if b then x ∷ filter p xs else filter p xs) off) m) in (Contains-tail x xs s n.0, n.1))

  -- an element that passes is one of the filter
  pub in_filter : (xs : List A) (s : A) → Contains xs s → p s ≡ true → Contains (filter p xs) s
  in_filter [] s m on = absurd (nothing_in_nil s m)
  in_filter (x ∷ xs) s m on = by_test (λ n. in_filter xs s n on) (cases_Bool (p x))
    where
      by_test : (Contains xs s → Contains (filter p xs) s) → ((p x ≡ true) ⊎ (p x ≡ false)) → Contains (filter p (x ∷ xs)) s
      by_test rest (inl here) =
          subst (λ v. Contains v s) (sym (ap (λ b. if b then x ∷ filter p xs else filter p xs) here))
          (elim (Contains-cons_cases x xs s m) [
            | inl e ↦ subst (λ v. Contains (x ∷ filter p xs) v) e (Contains-head x (filter p xs))
            | inr n ↦ Contains-tail x (filter p xs) s (rest n)
          ])
      by_test rest (inr off) =
          subst (λ v. Contains v s) (sym (ap (λ b. if b then x ∷ filter p xs else filter p xs) off))
          (elim (Contains-cons_cases x xs s m) [ inl e ↦ absurd (let t = ap p e in cc) | inr n ↦ rest n ])

  -- some element passes, or none does
  pub any_is : (xs : List A) → list_any p xs ≡ true → (x : A) × Contains xs x × (p x ≡ true)
  any_is [] e = absurd (cc)
  any_is (x ∷ xs) e =
      elim (or_cases (p x) (list_any p xs) e) [
        | inl here ↦ (x, Contains-head x xs, here)
        | inr there ↦ (let r = any_is xs there in (r.0, Contains-tail x xs r.0 r.1, r.2))
      ]

  pub any_from : (xs : List A) (x : A) → Contains xs x → p x ≡ true → list_any p xs ≡ true
  any_from [] x m on = absurd (nothing_in_nil x m)
  any_from (y ∷ xs) x m on =
      elim (Contains-cons_cases y xs x m) [
        | inl here ↦ or_left (p y) (list_any p xs) (ap p here ∙ on)
        | inr there ↦ or_right (p y) (list_any p xs) (any_from xs x there on)
      ]

  pub none_passes : (xs : List A) (x : A) → Contains xs x → list_any p xs ≡ false → p x ≡ false
  none_passes xs x m none = elim (cases_Bool (p x)) [ inl on ↦ absurd (let a = any_from xs x m on in cc) | inr off ↦ off ]
