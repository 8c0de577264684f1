use Rattle.pl_plan.proofs.FaultIsOfProgram.{fault_is_of_program as proved}
use Rattle.pl_plan.proofs.laws.fault_is_of_program.Goals as goal

pub returns : goal.returns
returns c = proved
