use Rattle.trace_lines.proofs.reading.one_line.Goals as goal
use Rattle.trace_lines.proofs.Again.{one_line}

pub returns : goal.returns
returns c = one_line
