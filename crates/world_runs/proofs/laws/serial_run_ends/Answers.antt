use Rattle.world_runs.proofs.SerialExists.{serial_run_ends}
use Rattle.world_runs.proofs.laws.serial_run_ends.Goals as goal

pub returns : goal.returns
returns c = serial_run_ends
