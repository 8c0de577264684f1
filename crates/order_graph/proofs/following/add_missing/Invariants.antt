use Rattle.std.proofs.Common.{◌≡◌, length, take}
use Rattle.order_graph.specs.calls.Orders.{IsOrder}
use Rattle.order_graph.specs.calls.Waits.{Awaits}
use Rattle.order_graph.specs.inside.Steps.{AddsAll, PairsFrom}
use Rattle.order_graph.proofs.following.add_missing.Given as goal

abbrev pub invariant-loop-t : goal.invariant-loop-t
invariant-loop-t l = record {
  order : IsOrder l.order;
  tasks : length l.order.positions ≡ length l.initial.order.positions;
  adds : AddsAll (PairsFrom (Awaits l.waits) (take l.t-index l.behind)) l.initial.order l.order;
}
