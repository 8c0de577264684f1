use Rattle.armus_base.proofs.laws.texts.worked_loads.Goals as goal
use Rattle.armus_base.proofs.WorkedLoads.{worked_loads}

pub returns : goal.returns
returns c = worked_loads
