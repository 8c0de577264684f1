use Rattle.armus_base.proofs.laws.runs.one_end.Goals as goal
use Rattle.armus_base.proofs.MaximalExists.{maximal_exists}
use Rattle.armus_base.proofs.OneEnd.{one_end}

pub returns : goal.returns
returns c = record { exists = maximal_exists; same = one_end }
