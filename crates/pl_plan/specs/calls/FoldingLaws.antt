-- Laws of the pieces of a code.
use Rattle.std.specs.Prelude.{◌≡◌, ℕ, ◌≤◌, ◌↔◌, true, Ok, List, [], ◌++◌, length, slice_index_or}
use Rattle.armus_base.specs.declared.op.Op.{Op}
use Rattle.armus_base.specs.declared.piece.Piece.{Piece}
use Rattle.armus_base.specs.calls.Pieces.{AreWhole, IsFolded, unfolded}
use Rattle.armus_base.specs.Plans.{Plan}
use Rattle.armus_base.specs.calls.Plans.{folded_plan, pieces_of}
use Rattle.pl_syntax.specs.declared.limits.TheConstants.{MAX_OPEN_BRACES}
use Rattle.pl_syntax.specs.declared.tree.Program.{Program}
use Rattle.pl_syntax.specs.Grammar.{IsText}
use Rattle.pl_syntax.specs.Tree.{Tree, count, height}
use Rattle.pl_plan.specs.Unfolding.{plan_of}
use Rattle.pl_plan.specs.FoldedOps.{is_steady, pieces_in}
use Rattle.pl_plan.specs.calls.Folding.{HasFewTurns, HasPieces, LeavesPieces}

-- the pieces of a program's plan are those of its codes, and no others
abbrev pub PlanHasPieces : Type 0
PlanHasPieces =
    (program : Program) (plan : Plan) → plan_of program ≡ Ok plan → (t : ℕ) (ps : List Piece) → HasPieces program t ps ↔ (ps ≡ pieces_of plan t)

-- and each code has one list of them
abbrev pub OneListOfPieces : Type 0
OneListOfPieces = (program : Program) (t : ℕ) (ps qs : List Piece) → HasPieces program t ps → HasPieces program t qs → ps ≡ qs

-- they are folded, and unfold to the code, where the program is not too deep and has no loop of too many turns
abbrev pub PiecesUnfoldToCode : Type 0
PiecesUnfoldToCode =
    (program : Program) (plan : Plan) → height program.body ≤ MAX_OPEN_BRACES → HasFewTurns program.body → plan_of program ≡ Ok plan →
    (t : ℕ) (ps : List Piece) → HasPieces program t ps → IsFolded ps × (unfolded ps ≡ slice_index_or plan.codes t [])

-- so are those of each program that is read from a text
abbrev pub PiecesOfTexts : Type 0
PiecesOfTexts =
    (text : List ℕ) (program : Program) (plan : Plan) → IsText text program → plan_of program ≡ Ok plan →
    (t : ℕ) (ps : List Piece) → HasPieces program t ps → IsFolded ps × (unfolded ps ≡ slice_index_or plan.codes t [])

-- and its plan is the one whose codes are kept as these pieces
abbrev pub PlansOfTexts : Type 0
PlansOfTexts =
    (text : List ℕ) (program : Program) (plan : Plan) → IsText text program → plan_of program ≡ Ok plan →
    plan ≡ folded_plan plan.parents plan.makers plan.pieces

-- pieces that statements leave are whole loops, nested no deeper than the statements, and unfold to the ops that the statements made
abbrev pub LeftPiecesUnfold : Type 0
LeftPiecesUnfold =
    (body : Tree) (ops : List Op) (ps : List Piece) → HasFewTurns body → LeavesPieces body ops ps → AreWhole (height body) ps × (unfolded ps ≡ ops)

-- and there is one list of them
abbrev pub OneListLeft : Type 0
OneListLeft = (body : Tree) (ops : List Op) (ps qs : List Piece) → LeavesPieces body ops ps → LeavesPieces body ops qs → ps ≡ qs

-- which is computed from the body and its ops, whatever ops come behind
abbrev pub LeftPiecesAreComputed : Type 0
LeftPiecesAreComputed =
    (body : Tree) (ops behind : List Op) (ps : List Piece) → LeavesPieces body ops ps → pieces_in body (ops ++ behind) ≡ record { pieces = ps; rest = behind }

-- a steady body leaves no more pieces than it has statements, whatever turns its loops have
abbrev pub SteadyLeavesFew : Type 0
SteadyLeavesFew = (body : Tree) (ops : List Op) (ps : List Piece) → is_steady body ≡ true → LeavesPieces body ops ps → length ps ≤ count body
