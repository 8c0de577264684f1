use Rattle.report_laws.proofs.WaitsByMoves.{ops_are_told_by_their_moves, waits_are_told_by_their_moves}
use Rattle.report_laws.proofs.clock_origins.waits_come_from_what_is_told.Goals as goal

pub returns : goal.returns
returns c = record { ops = ops_are_told_by_their_moves; waits = waits_are_told_by_their_moves }
