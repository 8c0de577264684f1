use Rattle.explain.proofs.ClockOutputs.{each_clock_text_is_met, one_clock_output as one_proved}
use Rattle.explain.proofs.laws.one_clock_output.Goals as goal

pub returns : goal.returns
returns c = record { one = one_proved; exists = each_clock_text_is_met }
