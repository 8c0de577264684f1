use Rattle.std.proofs.Common.{List, subst}
use Rattle.monitor_laws.specs.States.{Participant}
use Rattle.monitor_search.specs.inside.Cascades.{AreOfList, named_group}
use Rattle.monitor_search.proofs.cascade.numbers_out.Goals as goal

pub free_at_all-requires-clause-waiting : goal.free_at_all-requires-clause-waiting
free_at_all-requires-clause-waiting c =
    subst (λ (l : List Participant). AreOfList l (named_group c.in_ok-table.table.waiting)) c.participants-list.ensures.list c.in_ok-table.ensures.waiting
