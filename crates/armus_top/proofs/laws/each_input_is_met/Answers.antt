use Rattle.armus_top.proofs.InputsMet.{each_input_is_met}
use Rattle.armus_top.proofs.laws.each_input_is_met.Goals as goal

pub returns : goal.returns
returns c = each_input_is_met
