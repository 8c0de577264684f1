-- The longest prefix of which each element passes.
use Rattle.std.proofs.Common.{◌≡◌, ℕ, suc, ◌+◌, ◌++◌, ◌∷◌, [], List, Bool, true, false, length, take, cond, ap, refl, ◌∙◌, arith}
use Rattle.std.proofs.lemmas.Bool.{and_from, and_parts}
use Rattle.std.specs.List.{list_all, prefix_len}

-- the first of these, if there is one, does not pass
abbrev pub Stops : (ℕ → Bool) → List ℕ → Type 0
Stops p [] = Unit {0}
Stops p (y ∷ ys) = p y ≡ false

-- elements that pass, before one that does not, are the prefix
pub prefix_is : (p : ℕ → Bool) (xs ys : List ℕ) → list_all p xs ≡ true → Stops p ys → prefix_len p (xs ++ ys) ≡ length xs
prefix_is p [] [] all stops = refl
prefix_is p [] (y ∷ ys) all stops = ap (λ b. cond b (1 + prefix_len p ys) 0) stops
prefix_is p (x ∷ xs) ys all stops =
    let (here, more) = and_parts (p x) (list_all p xs) all in
    let rest = prefix_is p xs ys more stops in
    ap (λ b. cond b (1 + prefix_len p (xs ++ ys)) 0) here ∙ omega (arith, rest)

-- each of the prefix passes
pub prefix_passes : (p : ℕ → Bool) (xs : List ℕ) → list_all p (take (prefix_len p xs) xs) ≡ true
prefix_passes p [] = refl
prefix_passes p (x ∷ xs) = by (prefix_passes p xs) (p x) refl
  where
    by : list_all p (take (prefix_len p xs) xs) ≡ true → (b : Bool) → p x ≡ b → list_all p (take (cond b (1 + prefix_len p xs) 0) (x ∷ xs)) ≡ true
    by more false e = refl
    by more true e =
        ap (λ k. list_all p (take k (x ∷ xs))) (let s : 1 + prefix_len p xs ≡ suc (prefix_len p xs) = omega arith in s)
        ∙ and_from (p x) (list_all p (take (prefix_len p xs) xs)) e more
