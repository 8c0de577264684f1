use Rattle.explain_deadlock.proofs.ForkersWait.{held_not_by_dead}
use Rattle.explain_deadlock.proofs.laws.held_are_not_impeded_by_dead.Goals as goal

pub returns : goal.returns
returns c = held_not_by_dead
