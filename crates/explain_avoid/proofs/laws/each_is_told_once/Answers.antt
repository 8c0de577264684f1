use Rattle.explain_avoid.proofs.RefusedOnce.{each_is_refused_once}
use Rattle.explain_avoid.proofs.ToldOnce.{each_is_told_once as told_proved}
use Rattle.explain_avoid.proofs.laws.each_is_told_once.Goals as goal

pub returns : goal.returns
returns c = record { refused = each_is_refused_once; told = told_proved }
