-- What stands where in a list.
use Rattle.std.proofs.Common.{◌≡◌, ◌≢◌, ℕ, zero, suc, ◌+◌, ◌<◌, ◌≤◌, Bool, true, false, Some, None, List, [], ◌∷◌, ◌++◌, length, get_or, set, drop, get_or-set_same, get_or-set_other, arith, sym, ◌∙◌, ap, subst, refl, ◌⊎◌, inl, inr}
use Rattle.std.specs.Prelude.{◌↔◌, slice_get}
use Rattle.std.proofs.lemmas.Bool.{cases_eq}

-- in two lists one behind the other
pub slice_get-append : {A : Type 0} (xs ys : List A) (k : ℕ) → k < length xs → slice_get (xs ++ ys) k ≡ slice_get xs k
slice_get-append [] ys k l = absurd (omega arith)
slice_get-append (x ∷ xs) ys zero l = refl
slice_get-append (x ∷ xs) ys (suc k) l = slice_get-append xs ys k (omega arith)

pub slice_get-behind : {A : Type 0} (xs ys : List A) (i : ℕ) → slice_get (xs ++ ys) (length xs + i) ≡ slice_get ys i
slice_get-behind [] ys i = ap (slice_get ys) (let e : 0 + i ≡ i = omega arith in e)
slice_get-behind (x ∷ xs) ys i = ap (slice_get (x ∷ (xs ++ ys))) (let e : length (x ∷ xs) + i ≡ suc (length xs + i) = omega arith in e) ∙ slice_get-behind xs ys i

-- after a write
pub slice_get-set_same : {A : Type 0} (xs : List A) (k : ℕ) (v : A) → k < length xs → slice_get (set xs k v) k ≡ Some v
slice_get-set_same [] k v l = absurd (omega arith)
slice_get-set_same (x ∷ xs) zero v l = refl
slice_get-set_same (x ∷ xs) (suc k) v l = slice_get-set_same xs k v (omega arith)

pub slice_get-set_other : {A : Type 0} (xs : List A) (k j : ℕ) (v : A) → j ≢ k → slice_get (set xs k v) j ≡ slice_get xs j
slice_get-set_other [] k j v n = refl
slice_get-set_other (x ∷ xs) zero zero v n = absurd (n refl)
slice_get-set_other (x ∷ xs) zero (suc j) v n = refl
slice_get-set_other (x ∷ xs) (suc k) zero v n = refl
slice_get-set_other (x ∷ xs) (suc k) (suc j) v n = slice_get-set_other xs k j v (λ e. n (ap suc e))

-- a flag that is set
pub set_flag : (xs : List Bool) (i j : ℕ) → i < length xs → (get_or (set xs i true) j false ≡ true) ↔ ((j ≡ i) ⊎ (get_or xs j false ≡ true))
set_flag xs i j lt =
    elim (cases_eq j i) [
      | inl e ↦ (λ _. inl e, λ _. subst (λ k. get_or (set xs i true) k false ≡ true) (sym e) (get_or-set_same xs i true false lt))
      | inr ne ↦ let f = get_or-set_other xs i j true false ne in (λ h. inr (sym f ∙ h), λ h. elim h [ inl e ↦ absurd (ne e) | inr g ↦ f ∙ g ])
    ]

-- where something stands, and where nothing does
pub some_at : {A : Type 0} (xs : List A) (k : ℕ) → k < length xs → (x : A) × (slice_get xs k ≡ Some x)
some_at [] k l = absurd (omega arith)
some_at (x ∷ xs) zero l = (x, refl)
some_at (x ∷ xs) (suc k) l = some_at xs k (omega arith)

pub past_end : {A : Type 0} (xs : List A) (k : ℕ) → slice_get xs k ≡ None → length xs ≤ k
past_end [] k e = omega arith
past_end (x ∷ xs) zero e = absurd (cc)
past_end (x ∷ xs) (suc k) e = omega (arith, past_end xs k e)

-- in front
pub headed : {A : Type 0} (xs : List A) (x : A) → 1 ≤ length xs → x ≡ get_or xs 0 x → xs ≡ x ∷ drop 1 xs
headed [] x some is = absurd (omega arith)
headed (y ∷ ys) x some is = ap (λ z. z ∷ ys) (sym is)

pub first_and_rest : {A : Type 0} (xs : List A) (x : A) → slice_get xs 0 ≡ Some x → xs ≡ x ∷ drop 1 xs
first_and_rest [] x e = absurd (cc)
first_and_rest (y ∷ ys) x e = cc

pub none_first : {A : Type 0} (xs : List A) → slice_get xs 0 ≡ None → xs ≡ []
none_first [] e = refl
none_first (x ∷ xs) e = absurd (cc)

-- two lists with one last element each are the same, and so are these
pub ends_some : {A : Type 0} (xs : List A) (x : A) → [] ≡ xs ++ x ∷ [] → ⊥
ends_some [] x e = absurd (cc)
ends_some (y ∷ ys) x e = absurd (cc)

pub same_ends : {A : Type 0} (xs ys : List A) (x y : A) → xs ++ x ∷ [] ≡ ys ++ y ∷ [] → (xs ≡ ys) × (x ≡ y)
same_ends [] [] x y e = (refl, cc)
same_ends [] (w ∷ ws) x y e = absurd (let rest : [] ≡ ws ++ y ∷ [] = cc in ends_some ws y rest)
same_ends (z ∷ zs) [] x y e = absurd (let rest : [] ≡ zs ++ x ∷ [] = cc in ends_some zs x rest)
same_ends (z ∷ zs) (w ∷ ws) x y e =
    let first : z ≡ w = cc in
    let rest : zs ++ x ∷ [] ≡ ws ++ y ∷ [] = cc in
    let later = same_ends zs ws x y rest in
    let same : zs ≡ ws = later.0 in
    (cc, later.1)
