-- Pieces, worked out: what some stand for, and what is no folded code.
use Rattle.std.specs.Prelude.{◌≡◌, ℕ, zero, suc, ◌*◌, ◌<◌, List, [], ◌∷◌, length}
use Rattle.armus_base.specs.declared.offset.Offset.TheVariants.{Here}
use Rattle.armus_base.specs.declared.op.Op.{Op}
use Rattle.armus_base.specs.declared.op.Op.TheVariants.{Make, Adv, Await}
use Rattle.armus_base.specs.declared.piece.Piece.{Piece}
use Rattle.armus_base.specs.declared.piece.Piece.TheVariants.{Op as Single, Repeat}
use Rattle.armus_base.specs.Limits.{max_ops}
use Rattle.armus_base.specs.calls.Pieces.{IsFolded, max_turns, unfolded}

-- phaser 0 is made
abbrev pub make : Op
make = Make (record { 0 = 0 })

-- an advance on it
abbrev pub advance : Op
advance = Adv (record { 0 = 0 })

-- an await of it
abbrev pub wait : Op
wait = Await (record { 0 = 0 }) Here

-- these pieces are a folded code, and stand for these ops
pub record AreFoldedTo (ps : List Piece) (os : List Op) : Type 0 where
  pub folded : IsFolded ps
  pub ops : unfolded ps ≡ os

-- an op, and two turns of three advances and an await
abbrev pub in_a_loop : List Piece
in_a_loop = Single make ∷ Repeat 2 3 ∷ Repeat 3 1 ∷ Single advance ∷ Single wait ∷ []

-- the ops for which they stand
abbrev pub in_a_loop_ops : List Op
in_a_loop_ops = make ∷ advance ∷ advance ∷ advance ∷ wait ∷ advance ∷ advance ∷ advance ∷ wait ∷ []

-- three loops of two turns
abbrev pub three_deep : List Piece
three_deep = Repeat 2 3 ∷ Repeat 2 2 ∷ Repeat 2 1 ∷ Single advance ∷ []

-- the ops for which they stand
abbrev pub three_deep_ops : List Op
three_deep_ops = advance ∷ advance ∷ advance ∷ advance ∷ advance ∷ advance ∷ advance ∷ advance ∷ []

-- a loop of one turn round these pieces
abbrev pub looped : List Piece → List Piece
looped ps = Repeat 1 (length ps) ∷ ps

-- n such loops
abbrev pub looped_by : ℕ → List Piece → List Piece
looped_by zero ps = ps
looped_by (suc n) ps = looped (looped_by n ps)

-- each of these is no folded code
pub record ExcludesPieces : Type 0 where
  -- a loop without a turn, one without a piece, and one with a turn too many
  pub no_turn : IsFolded (Repeat 0 1 ∷ Single advance ∷ []) → ⊥
  pub no_piece : IsFolded (Repeat 2 0 ∷ Single advance ∷ []) → ⊥
  pub turn_too_many : IsFolded (Repeat (suc max_turns) 1 ∷ Single advance ∷ []) → ⊥
  -- a loop that goes on behind the last piece, and one that goes on behind the loop round it
  pub past_the_end : IsFolded (Repeat 2 2 ∷ Single advance ∷ []) → ⊥
  pub past_the_outer : IsFolded (Repeat 2 2 ∷ Single advance ∷ Repeat 2 1 ∷ Single advance ∷ []) → ⊥
  -- a loop too deep
  pub too_deep : IsFolded (looped_by 65 (Single advance ∷ [])) → ⊥
  -- more ops than a plan may have, in few pieces
  pub ops_too_many : (k : ℕ) → max_ops < k * 2 → IsFolded (Repeat k 2 ∷ Single advance ∷ Single wait ∷ []) → ⊥
