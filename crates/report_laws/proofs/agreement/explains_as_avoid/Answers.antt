use Rattle.report_laws.proofs.ExplainedAvoid.{explains_as_avoid}
use Rattle.report_laws.proofs.agreement.explains_as_avoid.Goals as goal

pub returns : goal.returns
returns c = explains_as_avoid
