use Rattle.std.proofs.Common.{nat_eq}
use Rattle.std.specs.HashSet.{contains}
use Rattle.monitor_search.specs.inside.Cascades.{AreOut}
use Rattle.monitor_search.proofs.cascade.free_at_all.Given as goal

abbrev pub invariant-loop-p : goal.invariant-loop-p
invariant-loop-p l = AreOut l.state (contains nat_eq l.out)
