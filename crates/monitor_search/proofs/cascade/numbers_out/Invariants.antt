use Rattle.std.proofs.Common.{nat_eq}
use Rattle.std.specs.HashSet.{contains}
use Rattle.monitor_search.specs.inside.Cascades.{AreOut}
use Rattle.monitor_search.proofs.cascade.numbers_out.Given as goal

abbrev pub invariant-loop : goal.invariant-loop
invariant-loop l = AreOut l.state (contains nat_eq l.out)
