use Rattle.explain_deadlock.proofs.SomebodyWaits.{waits}
use Rattle.explain_deadlock.proofs.laws.somebody_waits.Goals as goal

pub returns : goal.returns
returns c = waits
