-- What is kept before the first visit.
use Rattle.std.specs.Prelude.{◌≡◌, ℕ, ◌+◌, List, [], ◌∷◌, length, slice_index_or, Some, None}
use Rattle.armus_base.specs.Limits.{max_tasks, max_phasers}
use Rattle.pl_plan.specs.declared.step.FlatStep.{FlatStep}
use Rattle.pl_plan.specs.declared.step.Thing.TheVariants as a_thing
use Rattle.pl_plan.specs.inside.Checker.{Bindings, Checker}

-- no name has a slot, and there is nothing in any
pub record AreOpeningBindings (names : ℕ) (b : Bindings) : Type 0 where
  pub slots_many : length b.slots ≡ names
  pub slots : (i : ℕ) → slice_index_or b.slots i 0 ≡ 0
  pub slot_count : b.slot_count ≡ 1
  pub things_many : length b.things ≡ max_tasks + max_phasers
  pub things : (i : ℕ) → slice_index_or b.things i a_thing.Nothing ≡ a_thing.Nothing

-- what is kept before the first visit: task 0 alone, forked with all steps; no name stands for anything, nobody is a member
pub record IsOpeningChecker (steps : List FlatStep) (names : ℕ) (k : Checker) : Type 0 where
  pub steps_are : k.steps ≡ steps
  pub parents : k.parents ≡ None ∷ []
  pub makers : k.makers ≡ []
  pub codes : k.codes ≡ [] ∷ []
  pub starts : k.starts ≡ Some (record { first = 0; after = length steps; things = k.bindings.things }) ∷ []
  pub members : k.members ≡ [] ∷ []
  pub bindings : AreOpeningBindings names k.bindings
  pub counts : k.counts ≡ record { ops = 0; visits = 0 }
