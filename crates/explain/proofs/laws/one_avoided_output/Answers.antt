use Rattle.explain.proofs.OneAvoidedOutput.{each_text_is_avoided, one_avoided_output as one_proved}
use Rattle.explain.proofs.laws.one_avoided_output.Goals as goal

pub returns : goal.returns
returns c = record { one = one_proved; exists = each_text_is_avoided }
