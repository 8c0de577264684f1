use Rattle.monitor_laws.proofs.laws.stuck_is_known.Goals as goal
use Rattle.monitor_laws.proofs.Known.{stuck_is_known}

pub returns : goal.returns
returns c = stuck_is_known
