use Rattle.clock_semantics.proofs.ClockFaultIsOfText.{clock_fault_is_of_text as proved}
use Rattle.clock_semantics.proofs.laws.clock_fault_is_of_text.Goals as goal

pub returns : goal.returns
returns c = proved
