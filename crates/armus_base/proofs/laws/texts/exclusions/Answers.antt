use Rattle.armus_base.proofs.laws.texts.exclusions.Goals as goal
use Rattle.armus_base.proofs.Excluded.{excludes, excludes_plans, excludes_unlocked}

pub returns : goal.returns
returns c = record { steps = excludes; plans = excludes_plans; lock = excludes_unlocked }
