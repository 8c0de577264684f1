use Rattle.clock_laws.proofs.ClockEnds.{no_task_is_held}
use Rattle.clock_laws.proofs.laws.no_clock_task_is_held.Goals as goal

pub returns : goal.returns
returns c = no_task_is_held
