use Rattle.explain.proofs.EachSteps.{each_text_has_steps}
use Rattle.explain.proofs.OneStepsOutput.{one_steps_output as one_proved}
use Rattle.explain.proofs.laws.one_steps_output.Goals as goal

pub returns : goal.returns
returns c = record { one = one_proved; exists = each_text_has_steps }
