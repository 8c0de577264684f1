use Rattle.std.proofs.Common.{◌-◌}
use Rattle.explain_check.proofs.LoopsAround.{Nears}
use Rattle.explain_check.proofs.around.turns_told.Given as goal

abbrev pub invariant-loop-at : goal.invariant-loop-at
invariant-loop-at l = Nears l.steps l.last_turns l.t.0 l.n l.fn.range.0 l.fn.range.1 l.at l.to l.turns

abbrev pub decreases-loop-at : goal.decreases-loop-at
decreases-loop-at l = l.to - l.at
