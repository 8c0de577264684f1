-- What an op asks of the table of phases.
use Rattle.std.specs.Prelude.{◌≡◌, ℕ, ◌+◌, ◌<◌, ◌^◌, Some}
use Rattle.armus_base.specs.declared.op.Op.{Op}
use Rattle.armus_base.specs.declared.op.Op.TheVariants.{Make, Reg, Fork, Adv, Drop, Await}
use Rattle.pl_core.specs.declared.phase_table.MemberTable.{MemberTable}
use Rattle.pl_core.specs.inside.PhaseTables.{HasCell, phases_in}

-- the table has a cell for what the op of task t changes, and a higher phase is a number of 32 bits
abbrev pub HasRoomFor : MemberTable → ℕ → Op → Type 0
HasRoomFor table t (Make p) = p.0 < table.phasers × HasCell table t p.0
HasRoomFor table t (Reg c p) = p.0 < table.phasers × HasCell table c.0 p.0
HasRoomFor table t (Fork c) = Unit {0}
HasRoomFor table t (Adv p) = p.0 < table.phasers × ((n : ℕ) → phases_in table t p.0 ≡ Some n → n + 1 < 2 ^ 32)
HasRoomFor table t (Drop p) = p.0 < table.phasers
HasRoomFor table t (Await p off) = Unit {0}
