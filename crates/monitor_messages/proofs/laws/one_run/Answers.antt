use Rattle.monitor_messages.proofs.laws.one_run.Goals as goal
use Rattle.monitor_messages.proofs.OneRun.{has_one_run}

pub returns : goal.returns
returns c = has_one_run
