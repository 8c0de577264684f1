use Rattle.explain_deadlock.proofs.EachToldOnce.{each_impeder_told}
use Rattle.explain_deadlock.proofs.laws.each_impeder_is_told.Goals as goal

pub returns : goal.returns
returns c = each_impeder_told
