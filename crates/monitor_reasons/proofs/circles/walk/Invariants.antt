use Rattle.std.proofs.Common.{◌≡◌, ℕ, ◌<◌, ◌≤◌, ◌++◌, Some, List, length}
use Rattle.std.specs.Prelude.{All}
use Rattle.monitor_search.specs.Known.{has_stuck_number}
use Rattle.monitor_reasons.specs.inside.Distances.{IsCircleWalk, distance_at}
use Rattle.monitor_reasons.proofs.circles.walk.Given as goal

-- what is walked from the last place, behind the places so far, is walked from the task
abbrev pub invariant-loop-left : goal.invariant-loop-left
invariant-loop-left l =
    (l.left ≤ l.fn.distance)
    × (l.last < length l.state.list)
    × (distance_at l.found.distances.items l.last ≡ Some l.left)
    × ((more : List ℕ) → IsCircleWalk l.state (has_stuck_number l.stuck) l.found.distances.items l.left l.last more →
    IsCircleWalk l.state (has_stuck_number l.stuck) l.found.distances.items l.fn.distance l.fn.task (l.places.items ++ more))
    × All (λ i. i < length l.state.list) l.places.items

abbrev pub decreases-loop-left : goal.decreases-loop-left
decreases-loop-left l = l.left
