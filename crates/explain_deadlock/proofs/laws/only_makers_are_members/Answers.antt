use Rattle.explain_deadlock.proofs.MakersAlone.{only_makers_are_members as proved}
use Rattle.explain_deadlock.proofs.laws.only_makers_are_members.Goals as goal

pub returns : goal.returns
returns c = proved
