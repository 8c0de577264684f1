use Rattle.armus_base.proofs.laws.finals.final_is_of_state.Goals as goal
use Rattle.armus_base.proofs.DeadByStatuses.{dead_by_final}
use Rattle.armus_base.proofs.EndsTell.{ends_are, ends_tell}

pub returns : goal.returns
returns c = record { ends = ends_are; tell = ends_tell; dead = dead_by_final }
