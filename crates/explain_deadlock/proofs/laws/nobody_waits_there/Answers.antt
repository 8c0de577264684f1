use Rattle.explain_deadlock.proofs.NobodyThere.{nobody_waits_there as proved}
use Rattle.explain_deadlock.proofs.laws.nobody_waits_there.Goals as goal

pub returns : goal.returns
returns c = proved
