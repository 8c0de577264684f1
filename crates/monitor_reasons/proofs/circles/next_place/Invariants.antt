use Rattle.std.proofs.Common.{length, take}
use Rattle.monitor_search.specs.Known.{has_stuck_number}
use Rattle.monitor_reasons.specs.inside.Distances.{is_next}
use Rattle.monitor_reasons.specs.inside.Listings.{listing}
use Rattle.monitor_reasons.proofs.LevelPlaces.{IsLeastOf}
use Rattle.monitor_reasons.proofs.circles.next_place.Given as goal

-- the first of those so far that is next
abbrev pub invariant-loop-u : goal.invariant-loop-u
invariant-loop-u l = IsLeastOf (λ k. is_next (listing l.list) (has_stuck_number l.stuck) l.found.distances.items l.n l.t k) (length l.list) (take l.u-index l.level) l.first
