use Rattle.avoider.proofs.OneOutcome.{one_outcome}
use Rattle.avoider.proofs.laws.outcomes_are_one.Goals as goal

pub returns : goal.returns
returns c = one_outcome
