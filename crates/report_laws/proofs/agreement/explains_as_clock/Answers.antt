use Rattle.report_laws.proofs.ExplainedClocks.{explains_as_clock}
use Rattle.report_laws.proofs.agreement.explains_as_clock.Goals as goal

pub returns : goal.returns
returns c = explains_as_clock
