use Rattle.report_laws.proofs.PendingTold.{pending_is_remembered}
use Rattle.report_laws.proofs.clock_origins.pending_is_remembered.Goals as goal

pub returns : goal.returns
returns c = pending_is_remembered
