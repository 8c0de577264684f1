use Rattle.std.proofs.Common.{◌≡◌, ℕ, ◌<◌, false, get_or}
use Rattle.monitor_laws.specs.States.{Participant}
use Rattle.monitor_words.specs.Stops.{stops}
use Rattle.monitor_search.specs.Known.{has_stuck_number}
use Rattle.monitor_reasons.specs.inside.Listings.{listing}
use Rattle.monitor_reasons.proofs.reasons.stopper.Given as goal

-- nobody before stops it
abbrev pub invariant-loop-at : goal.invariant-loop-at
invariant-loop-at l = (k : ℕ) (d : Participant) → k < l.at → stops (listing l.list) (has_stuck_number l.stuck) (get_or l.list k d) l.f ≡ false
