-- What the folding of ops by steps gives.
use Rattle.std.specs.Prelude.{◌≡◌, ℕ, ◌+◌, ◌≤◌, Bool, List, [], ◌++◌, length, slice_index_or, IfOk, Option, Some, None, Result, Ok, Err}
use Rattle.std.specs.Borrow.{Bor}
use Rattle.armus_base.specs.declared.errors.NoMemory.{NoMemory}
use Rattle.armus_base.specs.declared.op.Op.{Op}
use Rattle.armus_base.specs.declared.piece.Piece.{Piece}
use Rattle.armus_base.specs.Finals.{list_below}
use Rattle.armus_base.specs.Limits.{max_ops}
use Rattle.armus_base.specs.calls.Pieces.{IsFolded}
use Rattle.pl_syntax.specs.Tree.{Tree}
use Rattle.pl_plan.specs.declared.step.FlatStep.{FlatStep}
use Rattle.pl_plan.specs.declared.step.FlatStep.TheVariants as a_step
use Rattle.pl_plan.specs.FoldedOps.{Folding, folding, is_steady, loop_pieces, one_piece, pieces_in}
use Rattle.pl_plan.specs.Unfolding.{Start, code_pieces}
use Rattle.pl_plan.specs.inside.Checker.{CheckerStart}
use Rattle.pl_plan.specs.inside.Steps.{IsSpelled}

-- these pieces behind the old ones, and the ops that are left, unless memory ran out
abbrev pub GivesFolding : Result (Bor (List Op)) NoMemory → List Piece → List Piece → Folding → Type 0
GivesFolding (Ok left) old new f = (new ≡ old ++ f.pieces) × (left.now ≡ f.rest)
GivesFolding (Err e) old new f = Unit {0}

-- the steps from one index on, before another, are those of some tree
abbrev pub HasTree : List FlatStep → ℕ → ℕ → Type 0
HasTree steps from to = (n : ℕ) × (names : ℕ → List ℕ) × (tree : Tree) × IsSpelled n names steps from tree to

-- of a tree that is steady, or not
abbrev pub HasTreeOf : Bool → List FlatStep → ℕ → ℕ → Type 0
HasTreeOf steady steps from to = (n : ℕ) × (names : ℕ → List ℕ) × (tree : Tree) × (is_steady tree ≡ steady) × IsSpelled n names steps from tree to

-- what a step without a body folds: the first op, if it makes one
abbrev pub step_folding : FlatStep → List Op → Folding
step_folding (a_step.NewTask x) ops = folding [] ops
step_folding a_step.Skip ops = folding [] ops
step_folding step ops = one_piece ops

-- the steps from one index on, before another, fold the ops as the tree that they spell does
abbrev pub FoldsFrom : List FlatStep → ℕ → ℕ → List Op → Result (Bor (List Op)) NoMemory → List Piece → List Piece → Type 0
FoldsFrom steps from to ops r old new =
    (n : ℕ) (names : ℕ → List ℕ) (tree : Tree) → IsSpelled n names steps from tree to → GivesFolding r old new (pieces_in tree ops)

-- so does the loop with this index and so many turns, which is steady or not
abbrev pub FoldsLoop : Bool → List FlatStep → ℕ → ℕ → ℕ → List Op → Result (Bor (List Op)) NoMemory → List Piece → List Piece → Type 0
FoldsLoop steady steps at after k ops r old new =
    (n : ℕ) (names : ℕ → List ℕ) (tree : Tree) → IsSpelled n names steps (at + 1) tree after →
    GivesFolding r old new (loop_pieces steady k (pieces_in tree) ops)

-- ---- codes

-- a start that is kept has the steps of this start's body
abbrev pub SpellsStart : ℕ → (ℕ → List ℕ) → List FlatStep → Option Start → Option CheckerStart → Type 0
SpellsStart n names steps None None = Unit {0}
SpellsStart n names steps (Some start) (Some kept) = IsSpelled n names steps kept.first start.body kept.after
SpellsStart n names steps None (Some kept) = ⊥
SpellsStart n names steps (Some start) None = ⊥

-- the steps of a start that is kept are there, and are those of some tree
abbrev pub HasTreeAt : List FlatStep → Option CheckerStart → Type 0
HasTreeAt steps None = Unit {0}
HasTreeAt steps (Some kept) = (kept.after ≤ length steps) × HasTree steps kept.first kept.after

-- the pieces of the code of a task, whatever start its steps are those of, unless memory ran out
abbrev pub FoldsCode : List FlatStep → Option CheckerStart → List Op → Result (List Piece) NoMemory → Type 0
FoldsCode steps kept ops r =
    (n : ℕ) (names : ℕ → List ℕ) (start : Option Start) → SpellsStart n names steps start kept → IfOk r (λ ps. ps ≡ code_pieces start ops)

-- the starts that are kept have the steps of these
abbrev pub SpellStarts : ℕ → (ℕ → List ℕ) → List FlatStep → List (Option Start) → List (Option CheckerStart) → Type 0
SpellStarts n names steps starts kept =
    (t : ℕ) → SpellsStart n names steps (slice_index_or starts t None) (slice_index_or kept t None)

-- the pieces of task t's code
abbrev pub pieces_by : List (Option Start) → List (List Op) → ℕ → List Piece
pieces_by starts codes t = code_pieces (slice_index_or starts t None) (slice_index_or codes t [])

-- the codes can be folded: there is a start for each, which has the steps of some tree; and for some such starts their pieces are a folded code
pub record CanBeFolded (steps : List FlatStep) (kept : List (Option CheckerStart)) (codes : List (List Op)) : Type 0 where
  pub many : length kept ≡ length codes
  pub trees : (t : ℕ) → HasTreeAt steps (slice_index_or kept t None)
  pub few : (t : ℕ) → length (slice_index_or codes t []) ≤ max_ops
  pub folded : (n : ℕ) × (names : ℕ → List ℕ) × (starts : List (Option Start)) × SpellStarts n names steps starts kept
      × ((t : ℕ) → IsFolded (pieces_by starts codes t))

-- their pieces, whatever starts their steps are those of
abbrev pub AreFolded : List FlatStep → List (Option CheckerStart) → List (List Op) → List (List Piece) → Type 0
AreFolded steps kept codes lists =
    (n : ℕ) (names : ℕ → List ℕ) (starts : List (Option Start)) → SpellStarts n names steps starts kept → lists ≡ list_below (pieces_by starts codes) (length codes)
