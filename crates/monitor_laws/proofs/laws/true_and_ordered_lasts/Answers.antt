use Rattle.monitor_laws.proofs.laws.true_and_ordered_lasts.Goals as goal
use Rattle.monitor_laws.proofs.Lasting.{true_and_ordered_lasts}

pub returns : goal.returns
returns c = true_and_ordered_lasts
