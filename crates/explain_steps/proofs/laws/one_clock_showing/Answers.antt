use Rattle.explain_steps.proofs.OneClockShowing.{clock_showing_exists, one_clock_showing as proved}
use Rattle.explain_steps.proofs.laws.one_clock_showing.Goals as goal

pub returns : goal.returns
returns c = record { one = proved; exists = clock_showing_exists }
