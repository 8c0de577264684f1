use Rattle.report_laws.proofs.Avoided.{who_gains_and_pays}
use Rattle.report_laws.proofs.agreement.who_gains_and_pays.Goals as goal

pub returns : goal.returns
returns c = who_gains_and_pays
