use Rattle.armus_base.proofs.laws.runs.serial_is_avoided.Goals as goal
use Rattle.armus_base.proofs.OneSerialEnd.{one_serial_end}
use Rattle.armus_base.proofs.SerialFinalIsAvoided.{serial_final_is_avoided}
use Rattle.armus_base.proofs.SerialIsAvoided.{serial_is_avoided}

pub returns : goal.returns
returns c = record { run = serial_is_avoided; end = serial_final_is_avoided; same = one_serial_end }
