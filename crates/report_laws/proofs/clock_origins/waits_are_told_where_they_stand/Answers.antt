use Rattle.report_laws.proofs.PendingTold.{others_are_told_no_wait, waits_are_told_where_they_stand}
use Rattle.report_laws.proofs.clock_origins.waits_are_told_where_they_stand.Goals as goal

pub returns : goal.returns
returns c = record { waits = waits_are_told_where_they_stand; others = others_are_told_no_wait }
