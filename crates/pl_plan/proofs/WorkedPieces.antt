-- Small programs with the pieces of their codes, by computation.
use Rattle.std.proofs.Common.{◌≡◌, ℕ, Ok, Err, List, [], ◌∷◌, refl, subst}
use Rattle.armus_base.specs.declared.piece.Piece.{Piece}
use Rattle.armus_base.specs.Limits.{max_tasks}
use Rattle.pl_syntax.specs.declared.tree.Program.{Program}
use Rattle.pl_syntax.specs.Tree.{done}
use Rattle.pl_plan.specs.Unfolding.{Outcome, UnfoldingState, opening_state, pieces_at, unfold_tasks, make_visits, count_visit, act, act_fork, member_of, add_op}
use Rattle.pl_plan.specs.Unfolding.{leave, leave_below}
use Rattle.pl_plan.specs.calls.Folding.{HasPieces}
use Rattle.pl_plan.specs.calls.WorkedPieces.{HaveInOrder, HaveTheirPieces, folded_loops, other_loops}
use Rattle.pl_plan.proofs.CodePieces.{code_has, has_computed}
use Rattle.pl_plan.proofs.TasksLeave.{start_at}
use Rattle.pl_plan.proofs.VisitsLeave.{code}

-- how a program unfolds
abbrev unfolding_of : Program → Outcome UnfoldingState
unfolding_of program = unfold_tasks program.two max_tasks 0 (opening_state program.body)

-- the state at its end, where it has no fault
abbrev state_of : Outcome UnfoldingState → UnfoldingState
state_of (Ok s) = s
state_of (Err f) = opening_state done

abbrev end_of : Program → UnfoldingState
end_of program = state_of (unfolding_of program)

-- the pieces of task t's code, computed
abbrev computed : Program → ℕ → List Piece
computed program t = pieces_at (end_of program) t

computed_have : (program : Program) (t : ℕ) → unfolding_of program ≡ Ok (end_of program) → HasPieces program t (computed program t)
computed_have program t e =
    let h = code_has program (end_of program) e t in
    record { end = end_of program; unfolds = e; pieces = has_computed program.two (start_at (end_of program) t) (code (end_of program) t) h.0 h.1 }

worked : (program : Program) (t : ℕ) (ps : List Piece) → unfolding_of program ≡ Ok (end_of program) → computed program t ≡ ps → HasPieces program t ps
worked program t ps e is = subst (HasPieces program t) is (computed_have program t e)

-- a program with one task
alone : (program : Program) (ps : List Piece) → unfolding_of program ≡ Ok (end_of program) → computed program 0 ≡ ps → HaveInOrder program 0 (ps ∷ [])
alone program ps e is = (worked program 0 ps e is, tt)

-- one with two tasks, and one with three
two_tasks :
    (program : Program) (ps qs : List Piece) → unfolding_of program ≡ Ok (end_of program) → computed program 0 ≡ ps → computed program 1 ≡ qs →
    HaveInOrder program 0 (ps ∷ qs ∷ [])
two_tasks program ps qs e first second = (worked program 0 ps e first, (worked program 1 qs e second, tt))

three_tasks :
    (program : Program) (ps qs rs : List Piece) → unfolding_of program ≡ Ok (end_of program) → computed program 0 ≡ ps → computed program 1 ≡ qs →
    computed program 2 ≡ rs → HaveInOrder program 0 (ps ∷ qs ∷ rs ∷ [])
three_tasks program ps qs rs e first second third = (worked program 0 ps e first, (worked program 1 qs e second, (worked program 2 rs e third, tt)))

pub folded_loops_are : HaveTheirPieces folded_loops
unfolding unfold_tasks make_visits count_visit act act_fork member_of add_op leave leave_below
folded_loops_are =
    (alone _ _ refl refl, (alone _ _ refl refl, (alone _ _ refl refl, (alone _ _ refl refl, (two_tasks _ _ _ refl refl refl, tt)))))

pub other_loops_are : HaveTheirPieces other_loops
unfolding unfold_tasks make_visits count_visit act act_fork member_of add_op leave leave_below
other_loops_are = (
  alone _ _ refl refl,
  (
    alone _ _ refl refl,
    (
      three_tasks _ _ _ _ refl refl refl refl,
      (alone _ _ refl refl, (three_tasks _ _ _ _ refl refl refl refl, (alone _ _ refl refl, tt))),
    ),
  ),
)
