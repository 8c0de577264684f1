-- What `plan` answers.
use Rattle.std.specs.Prelude.{◌≡◌, Result, Ok, Err}
use Rattle.armus_base.specs.Plans.{Plan}
use Rattle.pl_plan.specs.declared.fault.PlanEnd.{PlanEnd}
use Rattle.pl_plan.specs.declared.fault.PlanEnd.TheVariants as ends
use Rattle.pl_plan.specs.Unfolding.{Outcome}

-- the plan, or the first fault, unless memory ran out
abbrev pub GivesOutcome : Result Plan PlanEnd → Outcome Plan → Type 0
GivesOutcome (Ok p) o = o ≡ Ok p
GivesOutcome (Err (ends.Check f)) o = o ≡ Err f
GivesOutcome (Err ends.NoMemory) o = Unit {0}
