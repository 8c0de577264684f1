use Rattle.schedule.proofs.OneSchedule.{one_reading, one_split}
use Rattle.schedule.proofs.laws.one_schedule.Goals as goal

pub returns : goal.returns
returns c = record { split = one_split; lines = one_reading }
