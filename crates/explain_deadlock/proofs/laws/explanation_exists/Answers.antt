use Rattle.explain_deadlock.proofs.ExplanationExists.{explanation_exists}
use Rattle.explain_deadlock.proofs.laws.explanation_exists.Goals as goal

pub returns : goal.returns
returns c = explanation_exists
