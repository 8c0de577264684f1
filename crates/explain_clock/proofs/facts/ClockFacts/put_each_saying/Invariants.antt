use Rattle.std.proofs.Common.{◌≡◌, ◌++◌, flat_map, map, take}
use Rattle.explain_clock.specs.ActivityLists.{those_said}
use Rattle.explain_clock.specs.ClockKeepers.{keeper_said, keepers, keepers_line}
use Rattle.explain_clock.specs.inside.ToldTogether.{said_bytes}
use Rattle.explain_clock.proofs.facts.ClockFacts.put_each_saying.Given as goal

abbrev pub invariant-loop-said : goal.invariant-loop-said
invariant-loop-said l =
    l.out.items ≡ l.initial.out.items
    ++ flat_map (λ said. keepers_line l.self l.event (those_said (keeper_said l.self l.event) (keepers l.self l.event) said)) (map said_bytes (take l.said-index l.sayings))
