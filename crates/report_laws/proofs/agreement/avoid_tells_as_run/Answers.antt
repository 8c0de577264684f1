use Rattle.report_laws.proofs.Avoided.{avoid_tells_as_run}
use Rattle.report_laws.proofs.agreement.avoid_tells_as_run.Goals as goal

pub returns : goal.returns
returns c = avoid_tells_as_run
