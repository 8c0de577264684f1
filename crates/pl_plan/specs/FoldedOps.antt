-- The pieces into which the ops of a task are folded, computed from its statements. `LeavesPieces` in `Folding` says the same as a relation.
use Rattle.std.specs.Prelude.{ℕ, zero, suc, ◌-◌, ◌*◌, Bool, true, false, ◌&&◌, if◌then◌else◌, List, [], ◌∷◌, ◌++◌, length, drop}
use Rattle.armus_base.specs.declared.op.Op.{Op}
use Rattle.armus_base.specs.declared.piece.Piece.{Piece}
use Rattle.armus_base.specs.declared.piece.Piece.TheVariants.{Op as Single, Repeat}
use Rattle.armus_base.specs.Pieces.{straight}
use Rattle.pl_syntax.specs.Tree.{Tree, done, plain, fork, loop, Plain, new_task, adv, await, skip}

-- the statements without a body that a steady loop may hold: they change no name, no member and no task
abbrev pub is_steady_plain : Plain → Bool
is_steady_plain (adv x) = true
is_steady_plain (await x off) = true
is_steady_plain skip = true
is_steady_plain s = false

-- a steady body: only `adv`, `await`, `skip`, and loops with a steady body
abbrev pub is_steady : Tree → Bool
is_steady done = true
is_steady (plain s rest) = is_steady_plain s && is_steady rest
is_steady (fork x body rest) = false
is_steady (loop k body rest) = is_steady body && is_steady rest

-- the statement makes an op
abbrev pub makes_op : Plain → Bool
makes_op (new_task x) = false
makes_op skip = false
makes_op s = true

-- pieces, and the ops behind those that they stand for
pub record Folding : Type 0 where
  pub pieces : List Piece
  pub rest : List Op

-- these pieces, and these ops behind
abbrev pub folding : List Piece → List Op → Folding
folding ps os = record { pieces = ps; rest = os }

-- the first op alone
abbrev pub one_piece : List Op → Folding
one_piece [] = folding [] []
one_piece (o ∷ os) = folding (Single o ∷ []) os

-- pieces, and those of the ops behind them
abbrev pub then_on : Folding → (List Op → Folding) → Folding
then_on a f = folding (a.pieces ++ (f a.rest).pieces) (f a.rest).rest

-- turn by turn
abbrev pub turn_pieces : ℕ → (List Op → Folding) → List Op → Folding
turn_pieces zero f os = folding [] os
turn_pieces (suc k) f os = then_on (f os) (turn_pieces k f)

-- a loop of k + 1 turns over these ops, of which the first turn left these pieces and, behind them, this rest: the ops of the other turns are passed over
abbrev pub loop_behind : ℕ → List Op → List Piece → List Op → Folding
loop_behind k os [] rest = folding [] os
loop_behind k os (b ∷ bs) rest = folding (Repeat (suc k) (length (b ∷ bs)) ∷ (b ∷ bs)) (drop (k * (length os - length rest)) rest)

-- a steady loop of k + 1 turns over these ops, of which the first turn left this
abbrev pub repeated : ℕ → List Op → Folding → Folding
repeated k os a = loop_behind k os a.pieces a.rest

-- a steady loop of k turns
abbrev pub steady_pieces : ℕ → (List Op → Folding) → List Op → Folding
steady_pieces zero f os = folding [] os
steady_pieces (suc k) f os = repeated k os (f os)

-- a loop, steady or not
abbrev pub loop_pieces : Bool → ℕ → (List Op → Folding) → List Op → Folding
loop_pieces true k f os = steady_pieces k f os
loop_pieces false k f os = turn_pieces k f os

-- the pieces that these statements leave of a list of ops that begins with theirs
abbrev pub pieces_in : Tree → List Op → Folding
pieces_in done os = folding [] os
pieces_in (plain s rest) os = if makes_op s then then_on (one_piece os) (pieces_in rest) else pieces_in rest os
pieces_in (fork x body rest) os = then_on (one_piece os) (pieces_in rest)
pieces_in (loop k body rest) os = then_on (loop_pieces (is_steady body) k (pieces_in body) os) (pieces_in rest)

-- the pieces of a whole code, whose first ops these statements made: behind theirs one piece for each op
abbrev pub body_pieces : Tree → List Op → List Piece
body_pieces body ops = (pieces_in body ops).pieces ++ straight (pieces_in body ops).rest
