-- What the flattening of statements adds to the steps and the names.
use Rattle.std.specs.Prelude.{◌≡◌, ℕ, List, ◌++◌, length}
use Rattle.std.specs.Borrow.{Bor}
use Rattle.pl_syntax.specs.Tree.{Tree}
use Rattle.pl_plan.specs.declared.step.FlatStep.{FlatStep}
use Rattle.pl_plan.specs.inside.Steps.{IsSpelled}
use Rattle.pl_plan.specs.inside.Shows.{IsNumbering}
use Rattle.pl_plan.specs.inside.Numbers.{spelling, IsMore}

-- The new steps spell the tree, behind those that there were. The names keep their numbers, and two numbers have two names.
pub record AddsSteps (old_names new_names : List (Bor (List ℕ))) (old new : List FlatStep) (tree : Tree) : Type 0 where
  pub names : IsMore old_names new_names
  pub distinct : IsNumbering (length new_names) (spelling new_names)
  pub added : (steps : List FlatStep) × (new ≡ old ++ steps)
  pub spelled : IsSpelled (length new_names) (spelling new_names) new (length old) tree (length new)

-- the steps spell the tree, with so many names
pub record AreFlattened (steps : List FlatStep) (names : ℕ) (tree : Tree) : Type 0 where
  pub spelling : ℕ → List ℕ
  pub distinct : IsNumbering names spelling
  pub spelled : IsSpelled names spelling steps 0 tree (length steps)
