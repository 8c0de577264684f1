-- What is kept behind the last visit of a program.
use Rattle.std.specs.Prelude.{◌≡◌, ℕ, List, Result, Ok, Err}
use Rattle.armus_base.specs.Limits.{max_tasks}
use Rattle.pl_syntax.specs.declared.tree.Program.{Program}
use Rattle.pl_syntax.specs.calls.Tree.{AreNear}
use Rattle.pl_plan.specs.declared.fault.PlanEnd.{PlanEnd}
use Rattle.pl_plan.specs.declared.fault.PlanEnd.TheVariants as ends
use Rattle.pl_plan.specs.calls.Folding.{HasFewTurns}
use Rattle.pl_plan.specs.inside.Checker.{Checker, IsChecker}
use Rattle.pl_plan.specs.inside.Shows.{ShowsState}
use Rattle.pl_plan.specs.Unfolding.{UnfoldingState, opening_state, plan_of, unfold_tasks}

-- it shows where the unfolding of the program ends, for some names; and no loop and no await of the program is out of bounds
pub record IsVisited (program : Program) (k : Checker) : Type 0 where
  pub fits : IsChecker k
  pub near : AreNear program.body
  pub few : HasFewTurns program.body
  pub names : ℕ → List ℕ
  pub end : (s : UnfoldingState) × (unfold_tasks program.two max_tasks 0 (opening_state program.body) ≡ Ok s) × ShowsState names k s

-- what is kept behind the last visit, or the first fault, unless memory ran out
abbrev pub GivesVisited : Result Checker PlanEnd → Program → Type 0
GivesVisited (Ok k) program = IsVisited program k
GivesVisited (Err (ends.Check f)) program = plan_of program ≡ Err f
GivesVisited (Err ends.NoMemory) program = Unit {0}
