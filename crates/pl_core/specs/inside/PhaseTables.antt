-- The table of phases, as the phases of all tasks.
use Rattle.std.specs.Prelude.{ℕ, List, [], Option, Some, None, slice_get}
use Rattle.armus_base.specs.States.{Phases}
use Rattle.pl_core.specs.declared.cell.Cell.{Cell}
use Rattle.pl_core.specs.declared.members.Members.{Members}
use Rattle.pl_core.specs.declared.phase_table.MemberTable.{MemberTable}
use Rattle.pl_core.specs.inside.Cells.{StandsIn, phase_among}

-- the cells of a phaser, and none without one
abbrev pub cells_from : Option Members → List Cell
cells_from None = []
cells_from (Some row) = row.cells.items

-- the cells of phaser p
abbrev pub cells_at : List Members → ℕ → List Cell
cells_at rows p = cells_from (slice_get rows p)

-- the phases of each task
unfoldable pub phases_in : MemberTable → ℕ → Phases
phases_in table t p = phase_among (cells_at table.rows.items p) t

-- task t has a cell for phaser p
abbrev pub HasCell : MemberTable → ℕ → ℕ → Type 0
HasCell table t p = StandsIn (cells_at table.rows.items p) t

-- no task loses a cell
abbrev pub KeepsCells : MemberTable → MemberTable → Type 0
KeepsCells old new = (t p : ℕ) → HasCell old t p → HasCell new t p
