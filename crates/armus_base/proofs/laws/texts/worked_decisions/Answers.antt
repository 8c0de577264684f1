use Rattle.armus_base.proofs.laws.texts.worked_decisions.Goals as goal
use Rattle.armus_base.proofs.WorkedDecisions.{decides_alive, decides_dead}

pub returns : goal.returns
returns c = record { dead = decides_dead; alive = decides_alive }
