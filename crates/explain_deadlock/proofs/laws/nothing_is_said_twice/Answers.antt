use Rattle.explain_deadlock.proofs.EachToldOnce.{nothing_twice}
use Rattle.explain_deadlock.proofs.laws.nothing_is_said_twice.Goals as goal

pub returns : goal.returns
returns c = nothing_twice
