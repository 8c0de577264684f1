use Rattle.std.proofs.Common.{◌≡◌, take}
use Rattle.monitor_search.specs.inside.Joining.{known_with}
use Rattle.monitor_search.proofs.joining.stuck_with.Given as goal

-- so far
abbrev pub invariant-loop-u : goal.invariant-loop-u
invariant-loop-u l = l.known ≡ known_with (take l.u-index l.state.list) l.was l.number
