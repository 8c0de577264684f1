use Rattle.std.proofs.Common.{◌≡◌, ◌<◌, ℕ, true, length, take}
use Rattle.std.specs.Prelude.{Contains}
use Rattle.std.specs.List.{list_any}
use Rattle.monitor_search.specs.Known.{has_stuck_number}
use Rattle.monitor_reasons.specs.inside.Distances.{stops_at}
use Rattle.monitor_reasons.specs.inside.Listings.{listing}
use Rattle.monitor_reasons.specs.inside.Reaching.{HavePassedDistances, IsFilling, HasDistance}
use Rattle.monitor_reasons.proofs.reaching.reach_level.Given as goal

-- by those so far
abbrev pub invariant-loop-u : goal.invariant-loop-u
invariant-loop-u l = record {
  fills : IsFilling l.fn.search l.search l.d (λ t. list_any (λ u. stops_at (listing l.list) (has_stuck_number l.stuck) u t) l.behind);
  reached : (t u : ℕ) → t < length l.list → Contains (take l.u-index l.behind) u → stops_at (listing l.list) (has_stuck_number l.stuck) u t ≡ true → HasDistance l.search t;
  passed : HavePassedDistances l.list l.search;
}
