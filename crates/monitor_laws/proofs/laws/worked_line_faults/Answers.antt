use Rattle.monitor_laws.proofs.laws.worked_line_faults.Goals as goal
use Rattle.monitor_laws.proofs.Worked.{worked_faults, worked_limits}

pub returns : goal.returns
returns c = record { rows = worked_faults; limits = worked_limits }
