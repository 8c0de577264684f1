use Rattle.armus_base.proofs.laws.finals.statuses_are_of_state.Goals as goal
use Rattle.armus_base.proofs.DeadByStatuses.{dead_by_statuses, run_is_of_plan}
use Rattle.armus_base.proofs.StatusesAre.{statuses_are}

pub returns : goal.returns
returns c = record { statuses = statuses_are; of_plan = run_is_of_plan; dead = dead_by_statuses }
