use Rattle.monitor.proofs.laws.one_cut.Goals as goal
use Rattle.monitor.proofs.Cuts.{has_one_cut, has_some_cut}

pub returns : goal.returns
returns c = record { some = has_some_cut; one = has_one_cut }
