use Rattle.armus_base.proofs.laws.agreement.dead_is_final.Goals as goal
use Rattle.armus_base.proofs.AvoidanceAgrees.{dead_is_final, dead_is_final_at_lawful}

pub returns : goal.returns
returns c = record { runs = dead_is_final; lawful = dead_is_final_at_lawful }
