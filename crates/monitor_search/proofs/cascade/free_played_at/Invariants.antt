use Rattle.std.proofs.Common.{nat_eq}
use Rattle.std.specs.HashSet.{contains}
use Rattle.monitor_search.specs.inside.Cascades.{AreOut}
use Rattle.monitor_search.proofs.cascade.free_played_at.Given as goal

abbrev pub invariant-loop-place : goal.invariant-loop-place
invariant-loop-place l = AreOut l.state (contains nat_eq l.out)
