use Rattle.explain_steps.proofs.OneShowing.{one_showing as proved}
use Rattle.explain_steps.proofs.ShowingExists.{showing_exists}
use Rattle.explain_steps.proofs.laws.one_showing.Goals as goal

pub returns : goal.returns
returns c = record { one = proved; exists = showing_exists }
