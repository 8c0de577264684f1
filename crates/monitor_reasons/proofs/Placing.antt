-- Places that are added under a name or a number.
use Rattle.std.proofs.Common.{◌≡◌, ℕ, ◌+◌, ◌<◌, Bool, true, false, List, [], ◌∷◌, ◌++◌, length, get_or, take, sym, ◌∙◌, ap, subst, ◌⊎◌, inl, inr, arith}
use Rattle.std.specs.Prelude.{Contains}
use Rattle.std.proofs.lemmas.Bool.{cases_Bool, cases_lt}
use Rattle.std.proofs.lemmas.List.{take_more}
use Rattle.std.proofs.lemmas.List.Elements.{Contains-append_cases, Contains-append_left, Contains-append_right}
use Rattle.armus_base.proofs.Elements.{Contains-cons_cases, Contains-head, nothing_in_nil}

-- one more place under a key
module _ {K : Type 0} (eq : K → K → Bool) (decides : (a b : K) → eq a b ≡ true → a ≡ b) (f g : K → List ℕ) (key : K) (place : ℕ) (own : g key ≡ f key ++ place ∷ [])
    (others : (q : K) → eq key q ≡ false → g q ≡ f q) where
  pub kept_added : (q : K) (i : ℕ) → Contains (f q) i → Contains (g q) i
  kept_added q i within = elim (cases_Bool (eq key q)) [
    | inl same ↦
        (let e = decides key q same in
        subst (λ x. Contains (g x) i) e (subst (λ l. Contains l i) (sym own) (Contains-append_left (f key) (place ∷ []) i (subst (λ x. Contains (f x) i) (sym e) within))))
    | inr other ↦ subst (λ l. Contains l i) (sym (others q other)) within
  ]

  pub now_added : (q : K) → eq q key ≡ true → Contains (g q) place
  now_added q same =
      subst (λ x. Contains (g x) place) (sym (decides q key same)) (subst (λ l. Contains l place) (sym own) (Contains-append_right (f key) (place ∷ []) place (Contains-head place [])))

-- one more of some
pub one_more_of : {A : Type 0} (xs : List A) (i : ℕ) (x y : A) → i < length xs → x ≡ get_or xs i x → Contains (take (i + 1) xs) y → Contains (take i xs) y ⊎ (x ≡ y)
one_more_of xs i x y within is there =
    elim (Contains-append_cases (take i xs) (x ∷ []) y (subst (λ l. Contains l y) (take_more xs i x within ∙ ap (λ z. take i xs ++ z ∷ []) (sym is)) there)) [
      | inl before ↦ inl before
      | inr last ↦ elim (Contains-cons_cases x [] y last) [ inl here ↦ inr here | inr none ↦ absurd (nothing_in_nil y none) ]
    ]

-- one of those below the next number is below this one, or is it
pub below_next : (i n : ℕ) → i < n + 1 → (i < n) ⊎ (i ≡ n)
below_next i n lt = elim (cases_lt i n) [ inl less ↦ inl less | inr not_less ↦ inr (omega arith) ]

-- one more of a list of places
pub place_more : (places : List ℕ) (i t : ℕ) → i < length places → Contains (take (i + 1) places) t → Contains (take i places) t ⊎ (get_or places i 0 ≡ t)
place_more places i t within there =
    elim (Contains-append_cases (take i places) (get_or places i 0 ∷ []) t (subst (λ l. Contains l t) (take_more places i 0 within) there)) [
      | inl before ↦ inl before
      | inr last ↦ elim (Contains-cons_cases (get_or places i 0) [] t last) [ inl here ↦ inr here | inr none ↦ absurd (nothing_in_nil t none) ]
    ]
