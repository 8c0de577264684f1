-- Plans: the tasks with their parents and codes, and the phasers with their makers.
use Rattle.std.specs.Prelude.{ℕ, List, [], Option, map, unwrap_or, slice_get}
use Rattle.armus_base.specs.declared.ids.TaskId.{TaskId}
use Rattle.armus_base.specs.declared.offset.Offset.TheVariants.{Here}
use Rattle.armus_base.specs.declared.piece.Piece.{Piece}
use Rattle.armus_base.specs.calls.Pieces.{unfolded}
use Rattle.armus_base.specs.Plans.{Aim, Plan}

-- the plan whose codes are kept as these pieces
abbrev pub folded_plan : List (Option TaskId) → List TaskId → List (List Piece) → Plan
folded_plan parents makers pieces = record { parents = parents; makers = makers; codes = map unfolded pieces; pieces = pieces }

-- the own phase on phaser p
abbrev pub here : ℕ → Aim
here p = record { phaser = p; off = Here }

-- the pieces of task t
abbrev pub pieces_of : Plan → ℕ → List Piece
pieces_of plan t = unwrap_or (slice_get plan.pieces t) []
