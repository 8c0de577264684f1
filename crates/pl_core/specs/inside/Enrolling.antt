-- Which tasks the ops of a plan make members of which phasers.
use Rattle.std.specs.Prelude.{◌≡◌, ℕ, ◌<◌, List, Some, Vec, length, slice_get}
use Rattle.std.specs.Global.{Global}
use Rattle.armus_base.specs.declared.op.Op.{Op}
use Rattle.armus_base.specs.declared.op.Op.TheVariants.{Make, Reg, Fork, Adv, Drop, Await}
use Rattle.armus_base.specs.declared.piece.Piece.{Piece}
use Rattle.armus_base.specs.declared.piece.Piece.TheVariants.{Op as Single}
use Rattle.armus_base.specs.Plans.{Plan, code_of}
use Rattle.pl_core.specs.declared.phase_table.MemberTable.{MemberTable}
use Rattle.pl_core.specs.inside.PhaseTables.{HasCell}

-- by this op of task t, task c becomes a member of phaser p
abbrev pub Enrols : ℕ → Op → ℕ → ℕ → Type 0
Enrols t (Make q) c p = (c ≡ t) × (p ≡ q.0)
Enrols t (Reg d q) c p = (c ≡ d.0) × (p ≡ q.0)
Enrols t (Fork d) c p = ⊥
Enrols t (Adv q) c p = ⊥
Enrols t (Drop q) c p = ⊥
Enrols t (Await q off) c p = ⊥

-- by an op of task t, task c becomes a member of phaser p
abbrev pub IsEnrolled : Plan → ℕ → ℕ → ℕ → Type 0
IsEnrolled plan t c p = (k : ℕ) × (op : Op) × (slice_get (code_of plan t) k ≡ Some op) × Enrols t op c p

-- by an op among these pieces of task t, task c becomes a member of phaser p
abbrev pub IsEnrolledBy : List Piece → ℕ → ℕ → ℕ → Type 0
IsEnrolledBy pieces t c p = (k : ℕ) × (op : Op) × (slice_get pieces k ≡ Some (Single op)) × Enrols t op c p

-- each task that an op of the plan makes a member of a phaser has a cell for it
abbrev pub HasCells : Plan → MemberTable → Type 0
HasCells plan table =
    (t c p : ℕ) → t < length plan.parents → c < length plan.parents → p < length plan.makers → IsEnrolled plan t c p → HasCell table c p

-- row c of the rows names phaser p
abbrev pub IsNoted : List (Vec ℕ Global) → ℕ → ℕ → Type 0
IsNoted rows c p = (row : Vec ℕ Global) × (slice_get rows c ≡ Some row) × (k : ℕ) × (slice_get row.items k ≡ Some p)

-- what was noted stays, and so is now each such task and phaser
pub record Notes (old new : List (Vec ℕ Global)) (Means : ℕ → ℕ → Type 0) : Type 0 where
  pub sized : length new ≡ length old
  pub keeps : (c p : ℕ) → IsNoted old c p → IsNoted new c p
  pub there : (c p : ℕ) → c < length old → Means c p → IsNoted new c p
