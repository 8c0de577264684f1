-- The cells of a phaser: tasks, each with its phase where it is a member.
use Rattle.std.specs.Prelude.{◌≡◌, ◌==◌, ℕ, ◌<◌, ◌≤◌, List, [], ◌∷◌, Option, Some, None, option_and_then, slice_get, if◌then◌else◌}
use Rattle.pl_core.specs.declared.cell.Cell.{Cell}

-- the tasks of the cells ascend
abbrev pub CellsAscend : List Cell → Type 0
CellsAscend cs = (j k : ℕ) (c d : Cell) → j < k → slice_get cs j ≡ Some c → slice_get cs k ≡ Some d → c.task < d.task

-- no task of the cells has number n or a greater one
abbrev pub AreBelow : ℕ → List Cell → Type 0
AreBelow n cs = (k : ℕ) (c : Cell) → slice_get cs k ≡ Some c → c.task < n

-- the cell at k is that of task t
abbrev pub StandsInCell : List Cell → ℕ → ℕ → Type 0
StandsInCell cs k t = (c : Cell) × (slice_get cs k ≡ Some c) × (c.task ≡ t)

-- task t has a cell
abbrev pub StandsIn : List Cell → ℕ → Type 0
StandsIn cs t = (k : ℕ) × StandsInCell cs k t

-- the tasks ahead of this place are below t, and those from it on are not
pub record IsLowerBoundIn (cs : List Cell) (t at : ℕ) : Type 0 where
  pub ahead : (k : ℕ) (c : Cell) → k < at → slice_get cs k ≡ Some c → c.task < t
  pub from : (k : ℕ) (c : Cell) → at ≤ k → slice_get cs k ≡ Some c → t ≤ c.task

-- the phase in the cell at k
abbrev pub phase_in_cell : List Cell → ℕ → Option ℕ
phase_in_cell cs k = option_and_then (λ c. c.phase) (slice_get cs k)

-- the phase of task t
abbrev pub phase_among : List Cell → ℕ → Option ℕ
phase_among [] t = None
phase_among (c ∷ cs) t = if c.task == t then c.phase else phase_among cs t
