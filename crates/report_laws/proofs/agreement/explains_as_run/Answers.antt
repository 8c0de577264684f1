use Rattle.report_laws.proofs.Explained.{explains_as_run as proved}
use Rattle.report_laws.proofs.agreement.explains_as_run.Goals as goal

pub returns : goal.returns
returns c = proved
