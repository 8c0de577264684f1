use Rattle.report.proofs.CountsAddUp.{counts_add_up}
use Rattle.report.proofs.laws.counts_add_up.Goals as goal

pub returns : goal.returns
returns c = counts_add_up
