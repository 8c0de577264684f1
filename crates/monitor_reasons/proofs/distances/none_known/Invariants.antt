use Rattle.std.proofs.Common.{◌≡◌, None, replicate}
use Rattle.monitor_reasons.proofs.distances.none_known.Given as goal

-- so far
abbrev pub invariant-loop-turn : goal.invariant-loop-turn
invariant-loop-turn l = l.distances.items ≡ replicate l._turn None
