use Rattle.armus_base.proofs.laws.deadlocks.dead_stays.Goals as goal
use Rattle.armus_base.proofs.DeadStays.{dead_stays}
use Rattle.armus_base.proofs.Reachable.{dead_stays_at_reachable}

pub returns : goal.returns
returns c = record { runs = dead_stays; places = dead_stays_at_reachable }
