use Rattle.monitor_laws.proofs.laws.stuck_were_told.Goals as goal
use Rattle.monitor_laws.proofs.WereTold.{all_were_told, stuck_were_told}

pub returns : goal.returns
returns c = record { told = stuck_were_told; all = all_were_told }
