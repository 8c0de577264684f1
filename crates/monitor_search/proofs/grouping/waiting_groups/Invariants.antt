use Rattle.monitor_search.specs.inside.Cascades.{AreOfList, named_group}
use Rattle.monitor_search.proofs.grouping.waiting_groups.Given as goal

abbrev pub invariant-loop-u : goal.invariant-loop-u
invariant-loop-u l = AreOfList l.list (named_group l.groups)
