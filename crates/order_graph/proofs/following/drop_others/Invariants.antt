use Rattle.std.proofs.Common.{◌≡◌}
use Rattle.std.specs.Prelude.{All}
use Rattle.order_graph.specs.calls.Orders.{IsOrder, IsTaskOf}
use Rattle.order_graph.specs.calls.Waits.{Awaits}
use Rattle.order_graph.proofs.PairEdges.{HasOthersBelow, KeepsPairsBelow}
use Rattle.order_graph.proofs.following.drop_others.Given as goal

abbrev pub invariant-loop-t : goal.invariant-loop-t
invariant-loop-t l = record {
  order : IsOrder l.order;
  positions : l.order.positions ≡ l.initial.order.positions;
  pairs : KeepsPairsBelow (Awaits l.waits) l.t l.initial.order l.order;
  tasks : All (IsTaskOf l.initial.order) l.behind.items;
  others : HasOthersBelow (Awaits l.waits) l.t l.behind.items l.order;
}
