-- With what each task of a program is forked, at the end of the unfolding, and what `unfold` answers.
use Rattle.std.specs.Prelude.{◌≡◌, ℕ, [], Result, Ok, Err}
use Rattle.pl_syntax.specs.declared.tree.Program.{Program}
use Rattle.pl_plan.specs.declared.fault.PlanEnd.{PlanEnd}
use Rattle.pl_plan.specs.declared.fault.PlanEnd.TheVariants as ends
use Rattle.pl_plan.specs.declared.planning.Unfolded.{Unfolded}
use Rattle.pl_plan.specs.Unfolding.{plan_of}
use Rattle.pl_plan.specs.Forks.{fork_statements}

-- the plan and the forks, or the first fault, unless memory ran out
abbrev pub GivesUnfolded : Result Unfolded PlanEnd → Program → Type 0
GivesUnfolded (Ok u) program = (plan_of program ≡ Ok u.plan) × (u.forks.items ≡ fork_statements program)
GivesUnfolded (Err (ends.Check f)) program = plan_of program ≡ Err f
GivesUnfolded (Err ends.NoMemory) program = Unit {0}
