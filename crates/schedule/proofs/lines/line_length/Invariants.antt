use Rattle.std.proofs.Common.{take}
use Rattle.schedule.specs.Lines.{HasNoEnd}
use Rattle.schedule.proofs.lines.line_length.Given as goal

abbrev pub invariant-loop-at : goal.invariant-loop-at
invariant-loop-at l = HasNoEnd (take l.at l.bytes)
