use Rattle.monitor_reasons.proofs.AtPlaces.{AreKeepersBefore}
use Rattle.monitor_reasons.proofs.reasons.keepers_of.Given as goal

-- of those so far
abbrev pub invariant-loop-at : goal.invariant-loop-at
invariant-loop-at l = AreKeepersBefore l.list l.f l.at l.places.items
