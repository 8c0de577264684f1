use Rattle.std.proofs.Common.{◌≡◌, length}
use Rattle.monitor_search.specs.Known.{has_stuck_number}
use Rattle.monitor_reasons.specs.inside.Distances.{HaveLevels}
use Rattle.monitor_reasons.proofs.AtLevels.{IsAtLevel}
use Rattle.monitor_reasons.proofs.distances.distances_to.Given as goal

-- those below the level are known, and the levels before it are kept
abbrev pub invariant-loop-d : goal.invariant-loop-d
invariant-loop-d l =
    IsAtLevel l.state (has_stuck_number l.stuck) l.task l.d l.search l.behind.items × (length l.levels.items ≡ l.d) × HaveLevels l.search.distances.items l.levels.items
