-- The turns of a loop.
use Rattle.std.proofs.Common.{◌≡◌, ℕ, ◌+◌, ◌-◌, List, ◌∷◌, length}
use Rattle.pl_syntax.specs.Tree.{Tree}
use Rattle.pl_plan.specs.inside.Steps.{IsSpelled}
use Rattle.pl_plan.specs.inside.Checker.{Checker, Keeps}
use Rattle.armus_base.specs.Pieces.{times}
use Rattle.pl_plan.specs.Unfolding.{UnfoldingState, Outcome, visit, Visit, a_turn, visits_of, make_visits}
use Rattle.pl_plan.specs.inside.Shows.{ShowsState}

-- a turn of the loop with index at
abbrev pub turn : ℕ → Tree → List Visit
turn at tree = visit (at + 1) a_turn ∷ visits_of (at + 1 + 1) tree

pub record TurnsLeft (names : ℕ → List ℕ) (t left : ℕ) (ms : List Visit) (all : Outcome UnfoldingState) (k : Checker) : Type 0 where
  pub state : UnfoldingState
  pub shows : ShowsState names k state
  pub same : make_visits t (times left ms) state ≡ all

-- so many turns are done
pub record Turned (at after t turns : ℕ) (old : Checker) (i : ℕ) (k : Checker) : Type 0 where
  pub keeps : Keeps old k
  pub all : (names : ℕ → List ℕ) (s : UnfoldingState) (tree : Tree) → IsSpelled (length old.bindings.slots) names old.steps (at + 1) tree after → ShowsState names old s →
      TurnsLeft names t (turns - i) (turn at tree) (make_visits t (times turns (turn at tree)) s) k
