use Rattle.explain_steps.proofs.OneSerialRun.{first_steps_are_serial, one_serial_run as proved}
use Rattle.explain_steps.proofs.SerialExists.{serial_run_exists}
use Rattle.explain_steps.proofs.SerialIsPlain.{serial_is_plain}
use Rattle.explain_steps.proofs.laws.one_serial_run.Goals as goal

pub returns : goal.returns
returns c = record { plain = serial_is_plain; first = first_steps_are_serial; one = proved; exists = serial_run_exists }
