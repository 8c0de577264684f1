-- Folded codes: pieces, and the ops that they stand for. Places of pieces are counted from 0.
use Rattle.std.specs.Prelude.{ℕ, zero, suc, ◌≤◌, List, [], ◌∷◌, ◌++◌, length}
use Rattle.armus_base.specs.declared.op.Op.{Op}
use Rattle.armus_base.specs.declared.piece.Piece.{Piece}
use Rattle.armus_base.specs.declared.piece.Piece.TheVariants.{Op as Single, Repeat}
use Rattle.armus_base.specs.declared.piece.TheConstants.{MAX_OPEN_REPEATS, MAX_TURNS}
use Rattle.armus_base.specs.Limits.{max_ops}
use Rattle.armus_base.specs.Pieces.{times}

-- how many Repeats may stand round a piece
abbrev pub max_open_repeats : ℕ
max_open_repeats = MAX_OPEN_REPEATS

-- how many turns a Repeat may have
abbrev pub max_turns : ℕ
max_turns = MAX_TURNS

-- the ops that the pieces from place a up to place b stand for: a Repeat stands for the pieces after it, as many as its length, run k times
abbrev pub ops_between : List Piece → ℕ → ℕ → List Op
ops_between [] a b = []
ops_between (piece ∷ ps) a zero = []
ops_between (piece ∷ ps) (suc a) (suc b) = ops_between ps a b
ops_between (Single o ∷ ps) zero (suc b) = o ∷ ops_between ps zero b
ops_between (Repeat k len ∷ ps) zero (suc b) = times k (ops_between ps zero len) ++ ops_between ps len b

-- the ops that these pieces stand for
abbrev pub unfolded : List Piece → List Op
unfolded ps = ops_between ps 0 (length ps)

-- a Repeat of k turns over the next len of at most b pieces: it has a turn and a piece, and not too many of either
pub record IsLoop (k len b : ℕ) : Type 0 where
  pub turns : 1 ≤ k
  pub few : k ≤ max_turns
  pub pieces : 1 ≤ len
  pub within : len ≤ b

-- the pieces from place a up to place b are there; each Repeat among them has its turns and its pieces, those lie before b and among the pieces of each
-- Repeat round it; and at most d of these Repeats stand round a piece
abbrev pub AreNested : ℕ → List Piece → ℕ → ℕ → Type 0
AreNested d ps zero zero = Unit {0}
AreNested d ps (suc a) zero = ⊥
AreNested d [] a (suc b) = ⊥
AreNested d (piece ∷ ps) (suc a) (suc b) = AreNested d ps a b
AreNested d (Single o ∷ ps) zero (suc b) = AreNested d ps zero b
AreNested zero (Repeat k len ∷ ps) zero (suc b) = ⊥
AreNested (suc d) (Repeat k len ∷ ps) zero (suc b) = IsLoop k len b × AreNested d ps zero len × AreNested (suc d) ps len b

-- these pieces are ops and whole loops, nested at most d deep
abbrev pub AreWhole : ℕ → List Piece → Type 0
AreWhole d ps = AreNested d ps 0 (length ps)

-- the pieces of a folded code: ops and whole loops, not nested too deep, that stand for no more ops than a plan may have
pub record IsFolded (ps : List Piece) : Type 0 where
  pub whole : AreWhole max_open_repeats ps
  pub few : length (unfolded ps) ≤ max_ops

-- pieces stand for ops: nothing for nothing; a piece with an op for that op; and a Repeat and its body for the body's ops, once for each turn
pub data StandFor : List Piece → List Op → Type 0 where
  nothing : StandFor [] []
  op : (o : Op) (ps : List Piece) (os : List Op) → StandFor ps os → StandFor (Single o ∷ ps) (o ∷ os)
  repeat : (k : ℕ) (body ps : List Piece) (once os : List Op) → StandFor body once → StandFor ps os →
      StandFor (Repeat k (length body) ∷ (body ++ ps)) (times k once ++ os)
