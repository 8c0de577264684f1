use Rattle.std.proofs.Common.{take}
use Rattle.explain_clock.specs.ClockExplanations.{paragraph_said}
use Rattle.explain_clock.specs.inside.ToldTogether.{AreToldAs}
use Rattle.explain_clock.proofs.facts.ClockFacts.told_of.Given as goal

abbrev pub invariant-loop-t : goal.invariant-loop-t
invariant-loop-t l = AreToldAs (paragraph_said l.self) (take l.t-index l.activities) l.told.items
