use Rattle.armus_base.proofs.laws.runs.reached_stays.Goals as goal
use Rattle.armus_base.proofs.ReachedStays.{reached_stays_at_later}
use Rattle.armus_base.proofs.ReachedStaysInRun.{reached_stays_in_run}

pub returns : goal.returns
returns c = record { later = reached_stays_at_later; longer = reached_stays_in_run }
