use Rattle.explain.proofs.EitherOutput.{each_text_has_output, one_either_output as one_proved}
use Rattle.explain.proofs.laws.one_either_output.Goals as goal

pub returns : goal.returns
returns c = record { one = one_proved; exists = each_text_has_output }
