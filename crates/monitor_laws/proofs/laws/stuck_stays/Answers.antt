use Rattle.monitor_laws.proofs.laws.stuck_stays.Goals as goal
use Rattle.monitor_laws.proofs.StuckStays.{stuck_stays}

pub returns : goal.returns
returns c = stuck_stays
