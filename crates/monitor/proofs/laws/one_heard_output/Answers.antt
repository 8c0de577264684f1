use Rattle.monitor.proofs.laws.one_heard_output.Goals as goal
use Rattle.monitor.proofs.OneOutput.{has_one_last_output, has_one_heard_output}

pub returns : goal.returns
returns c = record { going_on = has_one_heard_output; at_end = has_one_last_output }
