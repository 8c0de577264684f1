use Rattle.pl_plan.proofs.UnfoldedIsChecked.{unfolded_is_checked as proved}
use Rattle.pl_plan.proofs.laws.unfolded_is_checked.Goals as goal

pub returns : goal.returns
returns c = proved
