-- The pieces of a code: which loops of a task are kept folded. They are fixed by the task's body and by the ops that it made.
-- Read from the end: `HasPieces` says which pieces the code of a task has; `LeavesPieces` has a case for each sentence of the rule.
use Rattle.std.specs.Prelude.{◌≡◌, ℕ, zero, suc, ◌≤◌, Bool, true, false, List, [], ◌∷◌, ◌++◌, length, map, slice_index_or, Option, Some, None, Ok}
use Rattle.armus_base.specs.declared.op.Op.{Op}
use Rattle.armus_base.specs.declared.op.Op.TheVariants.{Drop}
use Rattle.armus_base.specs.declared.piece.Piece.{Piece}
use Rattle.armus_base.specs.declared.piece.Piece.TheVariants.{Op as Single, Repeat}
use Rattle.armus_base.specs.Limits.{max_tasks}
use Rattle.armus_base.specs.calls.Pieces.{max_turns}
use Rattle.armus_base.specs.Pieces.{straight, times}
use Rattle.pl_syntax.specs.declared.tree.Program.{Program}
use Rattle.pl_syntax.specs.Tree.{Tree, done, plain, fork, loop, Plain}
use Rattle.pl_plan.specs.FoldedOps.{is_steady, makes_op}
use Rattle.armus_base.specs.Numbers.{phaser}
use Rattle.pl_plan.specs.Unfolding.{Start, UnfoldingState, opening_state, unfold_tasks}

-- no loop has more turns than a Repeat may have
abbrev pub HasFewTurns : Tree → Type 0
HasFewTurns done = Unit {0}
HasFewTurns (plain s rest) = HasFewTurns rest
HasFewTurns (fork x body rest) = HasFewTurns body × HasFewTurns rest
HasFewTurns (loop k body rest) = (k ≤ max_turns) × HasFewTurns body × HasFewTurns rest

-- these statements make these ops, which leave these pieces
pub data LeavesPieces : Tree → List Op → List Piece → Type 0 where
  -- no statement
  nothing : LeavesPieces done [] []
  -- a statement that makes no op
  no_op : (s : Plain) (rest : Tree) (os : List Op) (ps : List Piece) → makes_op s ≡ false → LeavesPieces rest os ps → LeavesPieces (plain s rest) os ps
  -- a statement that makes an op: the op is one piece
  op : (s : Plain) (rest : Tree) (o : Op) (os : List Op) (ps : List Piece) → makes_op s ≡ true → LeavesPieces rest os ps →
      LeavesPieces (plain s rest) (o ∷ os) (Single o ∷ ps)
  -- a fork, which makes an op too
  a_fork : (x : List ℕ) (body rest : Tree) (o : Op) (os : List Op) (ps : List Piece) → LeavesPieces rest os ps →
      LeavesPieces (fork x body rest) (o ∷ os) (Single o ∷ ps)
  -- a steady loop that has a turn, of which a turn leaves a piece: a Repeat, and the pieces of one turn
  folded : (k : ℕ) (body rest : Tree) (once os : List Op) (bs ps : List Piece) → is_steady body ≡ true → 1 ≤ length bs →
      LeavesPieces body once bs → LeavesPieces rest os ps →
      LeavesPieces (loop (suc k) body rest) (times (suc k) once ++ os) (Repeat (suc k) (length bs) ∷ (bs ++ ps))
  -- a steady loop of which a turn leaves no piece: none
  no_piece : (k : ℕ) (body rest : Tree) (os : List Op) (ps : List Piece) → is_steady body ≡ true → LeavesPieces body [] [] → LeavesPieces rest os ps →
      LeavesPieces (loop k body rest) os ps
  -- a loop without a turn: none
  no_turn : (body rest : Tree) (os : List Op) (ps : List Piece) → LeavesPieces rest os ps → LeavesPieces (loop zero body rest) os ps
  -- a loop that is not steady: the pieces of its first turn, and those of its other turns
  a_turn : (k : ℕ) (body rest : Tree) (once os : List Op) (ps qs : List Piece) → is_steady body ≡ false → LeavesPieces body once ps →
      LeavesPieces (loop k body rest) os qs → LeavesPieces (loop (suc k) body rest) (once ++ os) (ps ++ qs)

-- ---- the pieces of a code

-- one Drop for each of these phasers
abbrev pub drops_of : List ℕ → List Op
drops_of phasers = map (λ p. Drop (phaser p)) phasers

-- The code and the pieces of a task with this body: its statements make the first ops, which leave the first pieces; behind them stands one Drop, and one
-- piece, for each phaser that the task leaves at its end, which it does in PL 2 alone.
pub record HasBodyPieces (two : Bool) (body : Tree) (code : List Op) (ps : List Piece) : Type 0 where
  pub made : List Op
  pub left : List ℕ  -- phasers
  pub body_pieces : List Piece
  pub leaves : LeavesPieces body made body_pieces
  pub in_two : two ≡ false → left ≡ []
  pub code_is : code ≡ made ++ drops_of left
  pub pieces_are : ps ≡ body_pieces ++ straight (drops_of left)

-- the same of a task that was forked with this; one that was not has no op and no piece
abbrev pub HasCodePieces : Bool → Option Start → List Op → List Piece → Type 0
HasCodePieces two None code ps = (code ≡ []) × (ps ≡ [])
HasCodePieces two (Some start) code ps = HasBodyPieces two start.body code ps

-- the codes of a state have these lists of pieces, in order of the tasks
pub record HaveCodePieces (two : Bool) (s : UnfoldingState) (lists : List (List Piece)) : Type 0 where
  pub many : length lists ≡ length s.plan.codes
  pub each : (t : ℕ) → HasCodePieces two (slice_index_or s.starts t None) (slice_index_or s.plan.codes t []) (slice_index_or lists t [])

-- the code of task t has these pieces, where the program unfolds to a plan
pub record HasPieces (program : Program) (t : ℕ) (ps : List Piece) : Type 0 where
  pub end : UnfoldingState
  pub unfolds : unfold_tasks program.two max_tasks 0 (opening_state program.body) ≡ Ok end
  pub pieces : HasCodePieces program.two (slice_index_or end.starts t None) (slice_index_or end.plan.codes t []) ps
