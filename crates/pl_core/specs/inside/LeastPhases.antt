-- The least phase of the members of a phaser, by the places of their cells.
use Rattle.std.specs.Prelude.{◌≡◌, ◌≢◌, ℕ, ◌<◌, ◌≤◌, List, Option, Some, None, length}
use Rattle.pl_core.specs.declared.cell.Cell.{Cell}
use Rattle.pl_core.specs.declared.least.Least.{Least}
use Rattle.pl_core.specs.inside.Cells.{phase_in_cell}

-- there is a phase, and it is at most m
abbrev pub IsAtMost : Option ℕ → ℕ → Type 0
IsAtMost None m = ⊥
IsAtMost (Some n) m = n ≤ m

-- of the cells before place k this one has a phase that no other one is below, and they are not below the other phase; without one none has a phase
abbrev pub IsLeastBelow : (ℕ → Option ℕ) → ℕ → Option Least → Type 0
IsLeastBelow f k None = (u : ℕ) → u < k → f u ≡ None
IsLeastBelow f k (Some l) =
    (l.at < k) × (f l.at ≡ Some l.phase) × ((u m : ℕ) → u < k → f u ≡ Some m → l.phase ≤ m) × ((u m : ℕ) → u < k → u ≢ l.at → f u ≡ Some m → l.others ≤ m)

-- what is kept is a cell whose phase no other one is below, and a phase that the others are not below; without one none has a phase
pub record IsLeastCell (cells : List Cell) (least : Option Least) : Type 0 where
  pub within : (l : Least) → least ≡ Some l → l.at < length cells
  pub there : (l : Least) → least ≡ Some l → phase_in_cell cells l.at ≡ Some l.phase
  pub bound : (l : Least) (u m : ℕ) → least ≡ Some l → u < length cells → phase_in_cell cells u ≡ Some m → l.phase ≤ m
  pub beside : (l : Least) (u m : ℕ) → least ≡ Some l → u < length cells → u ≢ l.at → phase_in_cell cells u ≡ Some m → l.others ≤ m
  pub none : (u : ℕ) → least ≡ None → u < length cells → phase_in_cell cells u ≡ None
