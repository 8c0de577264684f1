use Rattle.explain_deadlock.proofs.DeadlockShown.{deadlock_stands_first}
use Rattle.explain_deadlock.proofs.laws.deadlock_stands_first.Goals as goal

pub returns : goal.returns
returns c = deadlock_stands_first
