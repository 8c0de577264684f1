use Rattle.armus_base.proofs.laws.plans.plan_grows.Goals as goal
use Rattle.armus_base.proofs.PlanGrows.{plan_grows, first_plan_is_checked, phases_stay_fixed, makers_are_tasks}

pub returns : goal.returns
returns c = record { first = first_plan_is_checked; checked = plan_grows; fixed = phases_stay_fixed; makers = makers_are_tasks }
