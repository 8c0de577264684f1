use Rattle.pl_plan.proofs.laws.unfolding_by_visits.Goals as goal
use Rattle.pl_plan.proofs.Unfolds.{fault_is_first, plan_is_unfolded}

pub returns : goal.returns
returns c = record { plan = plan_is_unfolded; fault = fault_is_first }
