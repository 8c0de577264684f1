use Rattle.report_laws.proofs.ClocksByMoves.{clocks_are_told_by_their_moves}
use Rattle.report_laws.proofs.clock_origins.clocks_come_from_what_is_told.Goals as goal

pub returns : goal.returns
returns c = clocks_are_told_by_their_moves
