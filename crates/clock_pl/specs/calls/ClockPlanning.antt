-- What `clock_plan` answers.
use Rattle.std.specs.Prelude.{◌≡◌, Result, Ok, Err}
use Rattle.armus_base.specs.Plans.{Plan}
use Rattle.pl_plan.specs.Unfolding.{Outcome, fault}
use Rattle.pl_plan.specs.declared.fault.CheckFault.{CheckFault}
use Rattle.clock_pl.specs.declared.fault.ClockEnd.{ClockEnd}
use Rattle.clock_pl.specs.declared.fault.ClockEnd.TheVariants as ends
use Rattle.clock_pl.specs.declared.fault.ClockFault.{ClockFault}

-- the fault of this kind and statement
abbrev pub as_fault : ClockFault → CheckFault
as_fault f = fault f.kind f.statement

-- the plan, or the first fault, unless memory ran out
abbrev pub GivesClockPlan : Result Plan ClockEnd → Outcome Plan → Type 0
GivesClockPlan (Ok p) o = o ≡ Ok p
GivesClockPlan (Err (ends.Clock f)) o = o ≡ Err (as_fault f)
GivesClockPlan (Err ends.NoMemory) o = Unit {0}
