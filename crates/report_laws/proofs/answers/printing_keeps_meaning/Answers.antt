use Rattle.report_laws.proofs.Printed.{printing_keeps_meaning}
use Rattle.report_laws.proofs.answers.printing_keeps_meaning.Goals as goal

pub returns : goal.returns
returns c = printing_keeps_meaning
