use Rattle.clock_semantics.proofs.ByClockTable.{comes_by_table, faults_by_table, stops_with_room, stops_without_room}
use Rattle.clock_semantics.proofs.ComesAreMoves.{comes_are_moves}
use Rattle.clock_semantics.proofs.laws.clock_coming_by_table.Goals as goal

pub returns : goal.returns
returns c = record { answer = comes_by_table; fault = faults_by_table; ends = stops_with_room; full = stops_without_room; moves = comes_are_moves }
