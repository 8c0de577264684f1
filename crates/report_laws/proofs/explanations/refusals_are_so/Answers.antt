use Rattle.report_laws.proofs.RefusalsTold.{refusals_are_so}
use Rattle.report_laws.proofs.explanations.refusals_are_so.Goals as goal

pub returns : goal.returns
returns c = refusals_are_so
