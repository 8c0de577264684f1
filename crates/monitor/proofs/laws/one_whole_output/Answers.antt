use Rattle.monitor.proofs.laws.one_whole_output.Goals as goal
use Rattle.monitor.proofs.OneOutput.{has_one_whole_output}

pub returns : goal.returns
returns c = has_one_whole_output
