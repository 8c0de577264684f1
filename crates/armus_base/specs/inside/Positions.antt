-- Where a walk over pieces stands, and the ops that are left to it.
use Rattle.std.specs.Prelude.{◌≡◌, ℕ, suc, ◌+◌, ◌-◌, ◌<◌, ◌≤◌, ◌^◌, Option, Some, None, List, [], ◌∷◌, ◌++◌, length, reverse, take, slice_get, slice_set}
use Rattle.armus_base.specs.declared.op.Op.{Op}
use Rattle.armus_base.specs.declared.piece.Piece.{Piece}
use Rattle.armus_base.specs.declared.piece.Piece.TheVariants.{Op as Single, Repeat}
use Rattle.armus_base.specs.declared.cursor.frame.OpenRepeat.{OpenRepeat}
use Rattle.armus_base.specs.declared.cursor.position.Position.{Position}
use Rattle.armus_base.specs.calls.Pieces.{AreNested, max_open_repeats, ops_between}
use Rattle.armus_base.specs.Pieces.{times}

-- the Repeats that are open, the innermost first
abbrev pub open_frames : Position → List OpenRepeat
open_frames position = reverse (take position.depth position.frames)

-- where the innermost body ends: behind the last of its pieces, and without a Repeat behind the last of all
abbrev pub end_of_body : List Piece → List OpenRepeat → ℕ
end_of_body ps [] = length ps
end_of_body ps (frame ∷ frames) = frame.to

-- the ops that follow this turn of the innermost body: its further turns, what is left of the turn round it, and what follows that one
abbrev pub ops_behind : List Piece → List OpenRepeat → List Op
ops_behind ps [] = []
ops_behind ps (frame ∷ frames) =
    times frame.turns (ops_between ps frame.from frame.to) ++ (ops_between ps frame.to (end_of_body ps frames) ++ ops_behind ps frames)

-- the ops that are left: those of this turn from the next piece on, and what follows
abbrev pub ops_left : List Piece → Position → List Op
ops_left ps position = ops_between ps position.at (end_of_body ps (open_frames position)) ++ ops_behind ps (open_frames position)

-- each open Repeat has a piece, those of its body may be walked again, and those behind it too; in the innermost body d more Repeats may open
abbrev pub AreOpen : ℕ → List Piece → List OpenRepeat → Type 0
AreOpen d ps [] = Unit {0}
AreOpen d ps (frame ∷ frames) =
    (frame.from < frame.to) × AreNested d ps frame.from frame.to × AreNested (suc d) ps frame.to (end_of_body ps frames) × AreOpen (suc d) ps frames

-- a walk over these pieces may stand here: before a piece of the innermost body, or behind its last one
pub record StandsAt (ps : List Piece) (position : Position) : Type 0 where
  pub sized : length position.frames ≡ max_open_repeats
  pub deep : position.depth ≤ max_open_repeats
  pub here : AreNested (max_open_repeats - position.depth) ps position.at (end_of_body ps (open_frames position))
  pub round : AreOpen (max_open_repeats - position.depth) ps (open_frames position)

-- this place is before the end of the innermost body
abbrev pub IsBefore : ℕ → List OpenRepeat → Type 0
IsBefore at [] = Unit {0}
IsBefore at (frame ∷ frames) = at < frame.to

-- a walk stands before the end of the innermost body
abbrev pub IsInside : Position → Type 0
IsInside position = IsBefore position.at (open_frames position)

-- the op of a piece that is no Repeat
abbrev pub op_of : Option Piece → Option Op
op_of None = None
op_of (Some (Single o)) = Some o
op_of (Some (Repeat k len)) = None

-- the turns and the length of a Repeat
abbrev pub repeat_of : Option Piece → Option (ℕ × ℕ)
repeat_of None = None
repeat_of (Some (Single o)) = None
repeat_of (Some (Repeat k len)) = Some (k, len)

-- a walk may stand at the new position too, and has the ops of the old one left
pub record KeepsOps (ps : List Piece) (old new : Position) : Type 0 where
  pub stands : StandsAt ps new
  pub same : ops_left ps new ≡ ops_left ps old

-- before the first piece, with no Repeat open
pub record IsFirst (position : Position) : Type 0 where
  pub sized : length position.frames ≡ max_open_repeats
  pub at : position.at ≡ 0
  pub depth : position.depth ≡ 0

-- behind a Repeat of k turns, at the first of its len pieces
abbrev pub entered : ℕ → ℕ → Position → Position
entered k len position =
    record {
      at = position.at + 1;
      depth = position.depth + 1;
      frames = slice_set position.frames position.depth (record { from = position.at + 1; to = position.at + 1 + len; turns = k - 1 });
    }

-- a cursor stands before an op, or at the end
pub record IsSettled (ps : List Piece) (position : Position) : Type 0 where
  pub stands : StandsAt ps position
  pub inside : IsInside position
  pub op : repeat_of (slice_get ps position.at) ≡ None
  pub short : length ps < 2 ^ 32
