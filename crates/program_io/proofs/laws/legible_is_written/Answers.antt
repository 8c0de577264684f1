use Rattle.program_io.proofs.LegibleWritten.{legible_stays, legible_written}
use Rattle.program_io.proofs.laws.legible_is_written.Goals as goal

pub returns : goal.returns
returns c = record { legible = legible_written; stays = legible_stays }
