use Rattle.report_laws.proofs.Cycles.{held_tasks_have_end}
use Rattle.report_laws.proofs.EndedLeave.{ended_have_left, held_wait_for_unforked}
use Rattle.report_laws.proofs.reports.held_tasks_have_end.Goals as goal

pub returns : goal.returns
returns c = record { end = held_tasks_have_end; left = ended_have_left; two = held_wait_for_unforked }
