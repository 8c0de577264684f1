-- Runs: lists of steps, the last one first, and the places to which they lead.
use Rattle.std.specs.Prelude.{◌≡◌, ℕ, ◌≤◌, Option, Some, None}
use Rattle.armus_base.specs.Plans.{Plan, Aim, Blocks, action_at}
use Rattle.armus_base.specs.Runs.{Place}

-- the code of task t goes on at this place with an await that it has not published
abbrev pub IsAtAwait : Plan → ℕ → Place → Type 0
IsAtAwait plan t place = (a : Aim) × action_at plan t place.done ≡ Some (Blocks a)

-- the place (k, o) is a prefix of the place (j, r)
abbrev pub Precedes : ℕ → Option ℕ → ℕ → Option ℕ → Type 0
Precedes k None j r = k ≤ j
Precedes k (Some p) j None = ⊥
Precedes k (Some p) j (Some q) = k ≡ j × p ≤ q

-- place a is a prefix of place b: one and the same, or b is further on
abbrev pub IsPrefix : Place → Place → Type 0
IsPrefix a b = Precedes a.done a.dropped b.done b.dropped

-- each place of a is a prefix of that of b
abbrev pub ArePrefixes : (ℕ → Place) → (ℕ → Place) → Type 0
ArePrefixes a b = (t : ℕ) → IsPrefix (a t) (b t)
