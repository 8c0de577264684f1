use Rattle.armus_top.proofs.CallsMet.{each_call_is_met}
use Rattle.armus_top.proofs.laws.each_call_is_met.Goals as goal

pub returns : goal.returns
returns c = each_call_is_met
