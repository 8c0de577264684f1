-- Slots from which everything is taken, one after the other.
use Rattle.std.proofs.Common.{◌≡◌, ℕ, zero, suc, ◌+◌, ◌<◌, ◌≤◌, Bool, true, false, List, [], ◌∷◌, ◌++◌, get_or, set, take, sym, refl, ap, ◌∙◌, arith, inl, inr, get_or-set_other}
use Rattle.std.proofs.lemmas.Bool.{cases_eq}
use mathlib.Core.Option.{some, none, some-injective}
use lib.ListN.{get_elem?}

take_next : {A : Type 0} (xs : List A) (i : ℕ) (x : A) → get_elem? xs i ≡ some x → take i xs ++ x ∷ [] ≡ take (suc i) xs
take_next [] i x e = absurd (let n : none ≡ some x = e in cc)
take_next (y ∷ ys) zero x e = ap (λ z. z ∷ []) (sym (some-injective y x e))
take_next (y ∷ ys) (suc i) x e = ap (λ zs. y ∷ zs) (take_next ys i x e)

-- one item more
pub take_at : {A : Type 0} (xs : List A) (i : ℕ) (x : A) → get_elem? xs i ≡ some x → take i xs ++ x ∷ [] ≡ take (i + 1) xs
take_at xs i x e = take_next xs i x e ∙ ap (λ n. take n xs) (let s : suc i ≡ i + 1 = omega arith in s)

emptied_here : (fs : List Bool) (i : ℕ) → get_or (set fs i false) i false ≡ false
emptied_here [] i = refl
emptied_here (f ∷ fs) zero = refl
emptied_here (f ∷ fs) (suc i) = emptied_here fs i

-- the slots after it are full as before
pub still_filled : (fs : List Bool) (i n : ℕ) → ((k : ℕ) → i ≤ k → k < n → get_or fs k false ≡ true) → (k : ℕ) → i + 1 ≤ k → k < n → get_or (set fs i false) k false ≡ true
still_filled fs i n full k after inside = get_or-set_other fs i k false false (λ e. omega arith) ∙ full k (omega arith) inside

-- and those up to it are empty
pub all_emptied : (fs : List Bool) (i : ℕ) → ((k : ℕ) → k < i → get_or fs k false ≡ false) → (k : ℕ) → k < i + 1 → get_or (set fs i false) k false ≡ false
all_emptied fs i empty k before = elim (cases_eq k i) [
  | inl e ↦ ap (λ j. get_or (set fs i false) j false) e ∙ emptied_here fs i
  | inr n ↦ get_or-set_other fs i k false false n ∙ empty k (omega arith)
]
