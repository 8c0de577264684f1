-- Things of which the same is said are told together.
use Rattle.std.specs.Prelude.{Bool, List, [], ◌∷◌, filter, not}

-- each of them once, in the order in which they first come
abbrev pub each_once : {A : Type 0} → (A → A → Bool) → List A → List A
each_once same [] = []
each_once same (x ∷ xs) = x ∷ filter (λ y. not (same x y)) (each_once same xs)
