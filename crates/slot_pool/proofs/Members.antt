-- What a list contains, by cases on the list.
use Rattle.std.proofs.Common.{◌≡◌, ◌≢◌, ℕ, zero, suc, ◌<◌, List, [], ◌∷◌, length, get_or, sym, refl, subst, arith, inl, inr, ◌⊎◌}
use Rattle.std.specs.Prelude.{Contains}
use Rattle.std.proofs.lemmas.List.Elements.{Contains-append_right, Contains-append_cases}

module _ {A : Type 0} where
  pub contains_none : (x : A) → Contains [] x → ⊥
  contains_none x c = absurd (let l = c.1 in omega arith)

  pub contains_first : (x : A) (xs : List A) → Contains (x ∷ xs) x
  contains_first x xs = (0, (omega arith), refl)

  pub contains_rest : (y : A) (xs : List A) (x : A) → Contains xs x → Contains (y ∷ xs) x
  contains_rest y xs x c = Contains-append_right (y ∷ []) xs x c

  pub contains_one : (y x : A) → Contains (y ∷ []) x → x ≡ y
  contains_one y x c = by_place c.0 c.1 c.2
    where
      by_place : (k : ℕ) → k < length (y ∷ []) → get_or (y ∷ []) k x ≡ x → x ≡ y
      by_place zero l e = sym e
      by_place (suc k) l e = absurd (omega arith)

  pub contains_cases : (y : A) (xs : List A) (x : A) → Contains (y ∷ xs) x → (x ≡ y) ⊎ Contains xs x
  contains_cases y xs x c = elim (Contains-append_cases (y ∷ []) xs x c) [
    | inl a ↦ inl (contains_one y x a)
    | inr b ↦ inr b
  ]

  -- of a longer list without its first
  pub contains_else : (y : A) (xs : List A) (x : A) → x ≢ y → Contains (y ∷ xs) x → Contains xs x
  contains_else y xs x n c = elim (contains_cases y xs x c) [
    | inl e ↦ absurd (n e)
    | inr b ↦ b
  ]

  -- a list is as it was, or has this in front of it
  abbrev pub Grows : A → List A → List A → Type 0
  Grows y xs ys = (ys ≡ xs) ⊎ (ys ≡ y ∷ xs)

  pub grown_else : (y : A) (xs ys : List A) → Grows y xs ys → (x : A) → x ≢ y → Contains ys x → Contains xs x
  grown_else y xs ys (inl e) x n c = subst (λ zs. Contains zs x) e c
  grown_else y xs ys (inr e) x n c = contains_else y xs x n (subst (λ zs. Contains zs x) e c)

  pub grown_still : (y : A) (xs ys : List A) → Grows y xs ys → (x : A) → Contains xs x → Contains ys x
  grown_still y xs ys (inl e) x c = subst (λ zs. Contains zs x) (sym e) c
  grown_still y xs ys (inr e) x c = subst (λ zs. Contains zs x) (sym e) (contains_rest y xs x c)
