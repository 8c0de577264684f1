use Rattle.armus_base.proofs.laws.plans.checked_by_codes.Goals as goal
use Rattle.armus_base.proofs.CheckedByCodes.{checked_by_codes}

pub returns : goal.returns
returns c = checked_by_codes
