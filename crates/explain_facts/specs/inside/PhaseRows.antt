-- The phases of all tasks, as rows.
use Rattle.std.specs.Prelude.{◌≡◌, ℕ, ◌+◌, ◌<◌, ◌^◌, List, Option, Some, None, Vec, length, slice_get, slice_index_or}
use Rattle.std.specs.Global.{Global}
use Rattle.armus_base.specs.declared.op.Op.{Op}
use Rattle.armus_base.specs.declared.op.Op.TheVariants.{Make, Reg, Fork, Adv, Drop, Await}
use Rattle.armus_base.specs.States.{Phases}
use Rattle.explain_facts.specs.declared.phase_rows.PhaseRows.{PhaseRows}

-- the phases in a row, if there is one
abbrev pub row_phases : Option (Vec (Option ℕ) Global) → Phases
row_phases None q = None
row_phases (Some row) q = slice_index_or row.items q None

-- the phases of each task
abbrev pub phases_of_rows : List (Vec (Option ℕ) Global) → ℕ → Phases
phases_of_rows rows t = row_phases (slice_get rows t)

-- the same of the rows that are kept
abbrev pub phases_in_rows : PhaseRows → ℕ → Phases
phases_in_rows p = phases_of_rows p.rows.items

-- there is a row of task t, and in it a phase on phaser q
abbrev pub HasRowCell : PhaseRows → ℕ → ℕ → Type 0
HasRowCell p t q = (row : Vec (Option ℕ) Global) × (slice_get p.rows.items t ≡ Some row) × (q < length row.items)

-- what has a cell keeps one
abbrev pub KeepsRowCells : PhaseRows → PhaseRows → Type 0
KeepsRowCells old new = (t q : ℕ) → HasRowCell old t q → HasRowCell new t q

-- so many tasks have a cell for each of so many phasers
abbrev pub HaveRowCells : ℕ → ℕ → PhaseRows → Type 0
HaveRowCells tasks phasers p = (t q : ℕ) → t < tasks → q < phasers → HasRowCell p t q

-- there is a cell for what the op of task t changes, and a higher phase is a number of 32 bits
abbrev pub HasRowRoom : PhaseRows → ℕ → Op → Type 0
HasRowRoom p t (Make q) = HasRowCell p t q.0
HasRowRoom p t (Reg c q) = HasRowCell p c.0 q.0
HasRowRoom p t (Fork c) = Unit {0}
HasRowRoom p t (Adv q) = HasRowCell p t q.0 × ((n : ℕ) → phases_in_rows p t q.0 ≡ Some n → n + 1 < 2 ^ 32)
HasRowRoom p t (Drop q) = HasRowCell p t q.0
HasRowRoom p t (Await q off) = Unit {0}
