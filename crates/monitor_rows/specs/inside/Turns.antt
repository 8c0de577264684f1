-- Groups of a list, found one after the other.
use Rattle.std.specs.Prelude.{ℕ, zero, suc, Bool, not, List, [], ◌∷◌, filter, length}

-- in each turn the first of what is left, and all who are like it
abbrev pub turn_groups : {A : Type 0} → (A → A → Bool) → ℕ → List A → List (A × List A)
turn_groups alike zero xs = []
turn_groups alike (suc k) [] = []
turn_groups alike (suc k) (x ∷ xs) = (x, filter (alike x) (x ∷ xs)) ∷ turn_groups alike k (filter (λ y. not (alike x y)) (x ∷ xs))

-- how many are left behind so many turns
abbrev pub turns_leave : {A : Type 0} → (A → A → Bool) → ℕ → List A → ℕ
turns_leave alike zero xs = length xs
turns_leave alike (suc k) [] = 0
turns_leave alike (suc k) (x ∷ xs) = turns_leave alike k (filter (λ y. not (alike x y)) (x ∷ xs))
