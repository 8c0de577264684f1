use Rattle.explain_avoid.proofs.AvoidedExists.{avoided_explanation_exists}
use Rattle.explain_avoid.proofs.OneAvoided.{one_avoided_explanation as one_proved}
use Rattle.explain_avoid.proofs.laws.one_avoided_explanation.Goals as goal

pub returns : goal.returns
returns c = record { one = one_proved; exists = avoided_explanation_exists }
