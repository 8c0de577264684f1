use Rattle.std.proofs.Common.{take}
use Rattle.explain_clock.specs.ClockKeepers.{keeper_said}
use Rattle.explain_clock.specs.inside.ToldTogether.{AreToldAs}
use Rattle.explain_clock.proofs.facts.ClockFacts.told_of_keepers.Given as goal

abbrev pub invariant-loop-t : goal.invariant-loop-t
invariant-loop-t l = AreToldAs (keeper_said l.self l.event) (take l.t-index l.activities) l.told.items
