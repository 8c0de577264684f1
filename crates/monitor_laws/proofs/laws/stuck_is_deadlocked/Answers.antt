use Rattle.monitor_laws.proofs.laws.stuck_is_deadlocked.Goals as goal
use Rattle.monitor_laws.proofs.Deadlocked.{stuck_is_deadlocked, unions_are_closed}

pub returns : goal.returns
returns c = record { same = stuck_is_deadlocked; unions = unions_are_closed }
