-- Laws of pieces: what they stand for.
use Rattle.std.specs.Prelude.{◌≡◌, ◌↔◌, ℕ, zero, suc, ◌+◌, ◌-◌, ◌<◌, ◌≤◌, if◌then◌else◌, nat_lt, Some, List, [], ◌∷◌, ◌++◌, length, slice_get}
use Rattle.armus_base.specs.declared.op.Op.{Op}
use Rattle.armus_base.specs.declared.piece.Piece.{Piece}
use Rattle.armus_base.specs.declared.piece.Piece.TheVariants.{Op as Single, Repeat}
use Rattle.armus_base.specs.Limits.{max_ops}
use Rattle.armus_base.specs.calls.Pieces.{AreWhole, IsFolded, IsLoop, StandFor, max_turns, unfolded}
use Rattle.armus_base.specs.Pieces.{straight, times}

-- folded pieces stand for their unfolded ops
abbrev pub FoldedStandForUnfolded : Type 0
FoldedStandForUnfolded = (ps : List Piece) → IsFolded ps → StandFor ps (unfolded ps)

-- and pieces stand for nothing else
abbrev pub StandForUnfoldedAlone : Type 0
StandForUnfoldedAlone = (ps : List Piece) (os : List Op) → StandFor ps os → os ≡ unfolded ps

-- pieces put together stand for the ops put together, where the first are whole loops
abbrev pub UnfoldedAppend : Type 0
UnfoldedAppend =
    (d : ℕ) (ps more : List Piece) → AreWhole d ps → unfolded (ps ++ more) ≡ unfolded ps ++ unfolded more

-- a loop stands for the ops of its body, once for each turn
abbrev pub UnfoldedLoop : Type 0
UnfoldedLoop = (k : ℕ) (body : List Piece) → unfolded (Repeat k (length body) ∷ body) ≡ times k (unfolded body)

-- whole loops put together are whole loops
abbrev pub WholeAppend : Type 0
WholeAppend = (d : ℕ) (ps more : List Piece) → AreWhole d ps → AreWhole d more → AreWhole d (ps ++ more)

-- a loop round whole loops is nested one deeper
abbrev pub WholeLoop : Type 0
WholeLoop =
    (d k : ℕ) (body : List Piece) → 1 ≤ k → k ≤ max_turns → 1 ≤ length body → AreWhole d body → AreWhole (suc d) (Repeat k (length body) ∷ body)

-- what is nested at most d deep is nested at most e deep, where e is no less
abbrev pub WholeDeeper : Type 0
WholeDeeper = (d e : ℕ) (ps : List Piece) → d ≤ e → AreWhole d ps → AreWhole e ps

-- one piece for each op stands for the ops
abbrev pub UnfoldedStraight : Type 0
UnfoldedStraight = (ops : List Op) → unfolded (straight ops) ≡ ops

-- and is folded, unless there are too many
abbrev pub StraightIsFolded : Type 0
StraightIsFolded = (ops : List Op) → length ops ≤ max_ops → IsFolded (straight ops)

-- how many Repeats from place a on stand round the piece at place j
abbrev pub repeats_round : List Piece → ℕ → ℕ → ℕ
repeats_round [] a j = 0
repeats_round (piece ∷ ps) a zero = 0
repeats_round (piece ∷ ps) (suc a) (suc j) = repeats_round ps a j
repeats_round (Single o ∷ ps) zero (suc j) = repeats_round ps zero j
repeats_round (Repeat k len ∷ ps) zero (suc j) = (if nat_lt j len then 1 else 0) + repeats_round ps zero j

-- whole loops, said place by place: each Repeat has its turns and its pieces, and these are in the list; a Repeat among the pieces of another has its own
-- pieces there too; and at most d Repeats stand round a piece
pub record IsWholeByPlaces (d : ℕ) (ps : List Piece) : Type 0 where
  pub loops : (i k len : ℕ) → slice_get ps i ≡ Some (Repeat k len) → IsLoop k len (length ps - (i + 1))
  pub inside : (i j k m len n : ℕ) → slice_get ps i ≡ Some (Repeat k len) → slice_get ps j ≡ Some (Repeat m n) → i < j → j ≤ i + len → j + n ≤ i + len
  pub shallow : (j : ℕ) → j < length ps → repeats_round ps 0 j ≤ d

-- both say the same
abbrev pub WholeByPlaces : Type 0
WholeByPlaces = (d : ℕ) (ps : List Piece) → AreWhole d ps ↔ IsWholeByPlaces d ps
