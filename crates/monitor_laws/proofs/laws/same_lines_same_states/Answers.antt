use Rattle.monitor_laws.proofs.laws.same_lines_same_states.Goals as goal
use Rattle.monitor_laws.proofs.OwnLines.{same_lines_same_states}

pub returns : goal.returns
returns c = same_lines_same_states
