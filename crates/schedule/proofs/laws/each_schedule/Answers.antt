use Rattle.schedule.proofs.LinesExist.{bytes_have_lines, input_is_split}
use Rattle.schedule.proofs.laws.each_schedule.Goals as goal

pub returns : goal.returns
returns c = record { split = input_is_split; lines = bytes_have_lines }
