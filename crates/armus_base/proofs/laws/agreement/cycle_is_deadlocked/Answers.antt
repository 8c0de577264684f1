use Rattle.armus_base.proofs.laws.agreement.cycle_is_deadlocked.Goals as goal
use Rattle.armus_base.proofs.CycleIsDeadlocked.{cycle_is_deadlocked, cycle_is_deadlocked_in, walk_cycle_waits_along}

pub returns : goal.returns
returns c = record { statuses = cycle_is_deadlocked; state = cycle_is_deadlocked_in; walk = walk_cycle_waits_along }
