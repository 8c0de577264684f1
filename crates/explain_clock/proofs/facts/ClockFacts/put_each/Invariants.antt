use Rattle.std.proofs.Common.{◌≡◌, ◌++◌, flat_map, map, take}
use Rattle.explain_clock.specs.ClockExplanations.{paragraph_saying}
use Rattle.explain_clock.specs.inside.ToldTogether.{said_bytes}
use Rattle.explain_clock.proofs.facts.ClockFacts.put_each.Given as goal

abbrev pub invariant-loop-said : goal.invariant-loop-said
invariant-loop-said l = l.out.items ≡ l.initial.out.items ++ flat_map (paragraph_saying l.self) (map said_bytes (take l.said-index l.sayings))
