use Rattle.monitor_search.proofs.laws.one_known.Goals as goal
use Rattle.monitor_search.proofs.Parted.{one_known}

pub returns : goal.returns
returns c = one_known
