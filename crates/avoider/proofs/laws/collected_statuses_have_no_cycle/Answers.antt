use Rattle.avoider.proofs.NoCycle.{no_cycle}
use Rattle.avoider.proofs.laws.collected_statuses_have_no_cycle.Goals as goal

pub returns : goal.returns
returns c = no_cycle
