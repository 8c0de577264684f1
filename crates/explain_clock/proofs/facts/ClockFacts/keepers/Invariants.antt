use Rattle.std.proofs.Common.{◌≡◌, take}
use Rattle.explain_clock.specs.ClockKeepers.{keepers_in}
use Rattle.explain_clock.proofs.facts.ClockFacts.keepers.Given as goal

abbrev pub invariant-loop-status : goal.invariant-loop-status
invariant-loop-status l = l.all.items ≡ keepers_in l.event (take l.status-index l.status-items)
