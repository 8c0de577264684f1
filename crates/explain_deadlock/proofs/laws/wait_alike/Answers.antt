use Rattle.explain_deadlock.proofs.WaitingAlike.{wait_alike}
use Rattle.explain_deadlock.proofs.laws.wait_alike.Goals as goal

pub returns : goal.returns
returns c = wait_alike
