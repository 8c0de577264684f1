use Rattle.clock_semantics.proofs.ClockPlanIsChecked.{clock_plan_is_checked as proved}
use Rattle.clock_semantics.proofs.laws.clock_plan_is_checked.Goals as goal

pub returns : goal.returns
returns c = proved
