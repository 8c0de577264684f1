use Rattle.std.proofs.Common.{◌≡◌, length, take}
use Rattle.order_graph.specs.calls.Orders.{IsOrder}
use Rattle.order_graph.specs.inside.Steps.{AddsAll, ToWanted}
use Rattle.order_graph.proofs.following.add_edges.Given as goal

abbrev pub invariant-loop-b : goal.invariant-loop-b
invariant-loop-b l = record {
  order : IsOrder l.order;
  tasks : length l.order.positions ≡ length l.initial.order.positions;
  adds : AddsAll (ToWanted l.t (take l.b-index l.wanted)) l.initial.order l.order;
}
