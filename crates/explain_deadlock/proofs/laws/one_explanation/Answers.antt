use Rattle.explain_deadlock.proofs.OneExplanation.{one_explanation}
use Rattle.explain_deadlock.proofs.laws.one_explanation.Goals as goal

pub returns : goal.returns
returns c = one_explanation
