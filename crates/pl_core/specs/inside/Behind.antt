-- Tasks with a phase below a number.
use Rattle.std.specs.Prelude.{◌≡◌, ℕ, ◌<◌, ◌≤◌, Option, Some, None}

-- there is a phase, and it is below n
abbrev pub IsBelow : Option ℕ → ℕ → Type 0
IsBelow phase n = (m : ℕ) × (phase ≡ Some m) × (m < n)

-- the first task from this number on whose phase is below n, if there is one
abbrev pub IsNextBelow : (ℕ → Option ℕ) → ℕ → ℕ → Option ℕ → Type 0
IsNextBelow f n from None = (u : ℕ) → from ≤ u → IsBelow (f u) n → ⊥
IsNextBelow f n from (Some u) = (from ≤ u) × IsBelow (f u) n × ((v : ℕ) → from ≤ v → v < u → IsBelow (f v) n → ⊥)
