use Rattle.armus_base.proofs.laws.agreement.held_has_end.Goals as goal
use Rattle.armus_base.proofs.HeldHasEnd.{held_has_end}

pub returns : goal.returns
returns c = held_has_end
