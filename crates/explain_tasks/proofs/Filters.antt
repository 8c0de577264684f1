-- The elements of filters, and of lists of what a function gives below a bound.
use Rattle.std.proofs.Common.{◌≡◌, ℕ, zero, suc, ◌+◌, ◌<◌, Bool, true, false, List, [], ◌∷◌, ◌++◌, arith, sym, ◌∙◌, ap, subst, inl, inr, ◌⊎◌, add-one}
use Rattle.std.specs.Prelude.{Contains, filter, if◌then◌else◌, map}
use Rattle.std.proofs.lemmas.Bool.{cases_Bool}
use Rattle.std.proofs.lemmas.List.Elements.{Contains-append_cases, filter-append}
use Rattle.armus_base.specs.Finals.{list_below}
use Rattle.armus_base.proofs.Elements.{Contains-cons_cases, Contains-head, Contains-tail, nothing_in_nil}

-- the elements that pass a test
pub passed_is : {A : Type 0} (p : A → Bool) (xs : List A) (s : A) → Contains (filter p xs) s → Contains xs s × p s ≡ true
passed_is p [] s m = absurd (nothing_in_nil s m)
passed_is {A} p (x ∷ xs) s m = by_test (passed_is p xs s) (cases_Bool (p x))
  where
    by_test : (Contains (filter p xs) s → Contains xs s × p s ≡ true) → ((p x ≡ true) ⊎ (p x ≡ false)) → Contains (x ∷ xs) s × p s ≡ true
    by_test rest (inl on) =
        elim (Contains-cons_cases x (filter p xs) s (subst (λ v. Contains v s) (ap (λ b. if b then x ∷ filter p xs else filter p xs) on) m)) [
          | inl e ↦ (subst (λ v. Contains (x ∷ xs) v) e (Contains-head x xs), ap p (sym e) ∙ on)
          | inr n ↦ (Contains-tail x xs s (rest n).0, (rest n).1)
        ]
    by_test rest (inr off) =
        (let n = rest (subst (λ v. Contains v s) (ap (λ b. if b then x ∷ filter p xs else filter p xs) off) m) in (Contains-tail x xs s n.0, n.1))

-- an element that passes is one of the filter
pub passed_from : {A : Type 0} (p : A → Bool) (xs : List A) (s : A) → Contains xs s → p s ≡ true → Contains (filter p xs) s
passed_from p [] s m on = absurd (nothing_in_nil s m)
passed_from {A} p (x ∷ xs) s m on = by_test (λ n. passed_from p xs s n on) (cases_Bool (p x))
  where
    by_test : (Contains xs s → Contains (filter p xs) s) → ((p x ≡ true) ⊎ (p x ≡ false)) → Contains (filter p (x ∷ xs)) s
    by_test rest (inl here) =
        subst (λ v. Contains v s) (sym (ap (λ b. if b then x ∷ filter p xs else filter p xs) here))
        (elim (Contains-cons_cases x xs s m) [
          | inl e ↦ subst (λ v. Contains (x ∷ filter p xs) v) e (Contains-head x (filter p xs))
          | inr n ↦ Contains-tail x (filter p xs) s (rest n)
        ])
    by_test rest (inr off) =
        subst (λ v. Contains v s) (sym (ap (λ b. if b then x ∷ filter p xs else filter p xs) off))
        (elim (Contains-cons_cases x xs s m) [ inl e ↦ absurd (let t = ap p e in cc) | inr n ↦ rest n ])

-- an element of the list comes from a number below the bound
pub below_is : {A : Type 0} (f : ℕ → A) (n : ℕ) (x : A) → Contains (list_below f n) x → (k : ℕ) × (k < n) × (f k ≡ x)
below_is f zero x m = absurd (nothing_in_nil x m)
below_is f (suc n) x m =
    elim (Contains-append_cases (list_below f n) (f n ∷ []) x m) [
      | inl l ↦ let before = below_is f n x l in (before.0, omega (arith, before.1), before.2)
      | inr r ↦ (n, omega arith, elim (Contains-cons_cases (f n) [] x r) as (λ _. f n ≡ x) [ inl e ↦ e | inr none ↦ absurd (nothing_in_nil x none) ])
    ]

-- what passes below one more
pub below_more : {A : Type 0} (f : ℕ → A) (p : A → Bool) (n : ℕ) → filter p (list_below f n) ++ (if p (f n) then f n ∷ [] else []) ≡ filter p (list_below f (n + 1))
below_more f p n =
    sym (filter-append p (list_below f n) (f n ∷ [])) ∙ ap (λ m. filter p (list_below f m)) (sym (add-one n))

-- what a function makes of an element is one of what it makes of all
pub has_map : {A B : Type 0} (f : A → B) (xs : List A) (x : A) → Contains xs x → Contains (map f xs) (f x)
has_map f [] x m = absurd (nothing_in_nil x m)
has_map {A} {B} f (y ∷ ys) x m =
    elim (Contains-cons_cases y ys x m) [
      | inl e ↦ subst (λ z. Contains (map f (y ∷ ys)) (f z)) e (Contains-head (f y) (map f ys))
      | inr n ↦ Contains-tail (f y) (map f ys) (f x) (has_map f ys x n)
    ]
