use Rattle.explain_clock.proofs.OneExplanation.{clock_explanation_exists, one_clock_explanation as proved}
use Rattle.explain_clock.proofs.laws.one_clock_explanation.Goals as goal

pub returns : goal.returns
returns c = record { one = proved; some = clock_explanation_exists }
