use Rattle.monitor_laws.proofs.laws.who_is_told_is_stuck.Goals as goal
use Rattle.monitor_laws.proofs.Told.{who_is_told_is_stuck}

pub returns : goal.returns
returns c = who_is_told_is_stuck
