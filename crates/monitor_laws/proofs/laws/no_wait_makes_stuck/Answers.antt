use Rattle.monitor_laws.proofs.laws.no_wait_makes_stuck.Goals as goal
use Rattle.monitor_laws.proofs.Guarding.{guarded_is_legal, no_wait_makes_stuck}

pub returns : goal.returns
returns c = record { legal = guarded_is_legal; nobody = no_wait_makes_stuck }
