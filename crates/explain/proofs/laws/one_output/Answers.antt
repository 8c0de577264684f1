use Rattle.explain.proofs.EachText.{each_text_is_met}
use Rattle.explain.proofs.OneOutput.{one_output as one_proved}
use Rattle.explain.proofs.laws.one_output.Goals as goal

pub returns : goal.returns
returns c = record { one = one_proved; exists = each_text_is_met }
