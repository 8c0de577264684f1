-- Texts of lists whose items are kept.
use Rattle.std.proofs.Common.{◌≡◌, ℕ, ◌+◌, List, [], ◌∷◌, ◌++◌, map, refl, ap}
use Rattle.std.specs.List.{enumerate_from, flat_map}

-- a text of what g makes of items, by their numbers
pub mapped_texts : {A B : Type 0} (f : ℕ → B → List ℕ) (g : A → B) (k : ℕ) (xs : List A) →
    flat_map (λ (i, x). f i x) (enumerate_from k (map g xs)) ≡ flat_map (λ (i, x). f i (g x)) (enumerate_from k xs)
mapped_texts f g k [] = refl
mapped_texts f g k (x ∷ xs) = ap (λ text. f k (g x) ++ text) (mapped_texts f g (k + 1) xs)
