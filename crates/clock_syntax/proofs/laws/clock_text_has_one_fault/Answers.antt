use Rattle.clock_syntax.proofs.ClockUnique.{one_clock_fault}
use Rattle.clock_syntax.proofs.laws.clock_text_has_one_fault.Goals as goal

pub returns : goal.returns
returns c = one_clock_fault
