use Rattle.explain_syntax.proofs.OneStand.{one_stand}
use Rattle.explain_syntax.proofs.laws.fault_has_one_stand.Goals as goal

pub returns : goal.returns
returns c = one_stand
