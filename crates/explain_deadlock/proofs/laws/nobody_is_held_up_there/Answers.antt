use Rattle.explain_deadlock.proofs.HeldUpNowhere.{nobody_is_held_up_there as proved}
use Rattle.explain_deadlock.proofs.laws.nobody_is_held_up_there.Goals as goal

pub returns : goal.returns
returns c = proved
