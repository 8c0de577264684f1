use Rattle.report_laws.proofs.Named.{replay_tells_as_run}
use Rattle.report_laws.proofs.agreement.replay_tells_as_run.Goals as goal

pub returns : goal.returns
returns c = replay_tells_as_run
