use Rattle.pl_syntax.proofs.Unique.{one_fault}
use Rattle.pl_syntax.proofs.laws.text_has_one_fault.Goals as goal

pub returns : goal.returns
returns c = one_fault
