-- Members of phasers before any op.
use Rattle.std.specs.Prelude.{◌≡◌, ℕ, ◌<◌, List, None, length}
use Rattle.pl_core.specs.declared.members.Members.{Members}
use Rattle.pl_core.specs.inside.Cells.{AreBelow, StandsIn, phase_among}
use Rattle.pl_core.specs.inside.PhaseTables.{cells_at}

-- for each of so many phasers cells of tasks below n, none of which is a member
pub record AreNew (phasers n : ℕ) (rows : List Members) : Type 0 where
  pub sized : length rows ≡ phasers
  pub below : (p : ℕ) → AreBelow n (cells_at rows p)
  pub empty : (p t : ℕ) → phase_among (cells_at rows p) t ≡ None

-- who had a cell has it, and so has now task t for each such phaser
pub record Admits (old new : List Members) (t : ℕ) (Means : ℕ → Type 0) : Type 0 where
  pub keeps : (u p : ℕ) → StandsIn (cells_at old p) u → StandsIn (cells_at new p) u
  pub there : (p : ℕ) → p < length old → Means p → StandsIn (cells_at new p) t
