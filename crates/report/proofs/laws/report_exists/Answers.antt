use Rattle.report.proofs.ReportExists.{report_exists}
use Rattle.report.proofs.laws.report_exists.Goals as goal

pub returns : goal.returns
returns c = report_exists
