use Rattle.schedule.proofs.LinesMet.{line_is_met, lines_are_met}
use Rattle.schedule.proofs.laws.each_replay.Goals as goal

pub returns : goal.returns
returns c = record { line = line_is_met; lines = lines_are_met }
