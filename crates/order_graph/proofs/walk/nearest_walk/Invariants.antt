use Rattle.std.proofs.Common.{ℕ, ◌-◌, length}
use Rattle.armus_base.specs.calls.Relations.{Walk}
use Rattle.order_graph.specs.calls.Orders.{IsEdge, position_of}
use Rattle.order_graph.specs.inside.Distances.{IsListedIn}
use Rattle.order_graph.proofs.NearestWalks.{IsWayTo}
use Rattle.order_graph.proofs.walk.nearest_walk.Given as goal

abbrev pub invariant-walk : goal.invariant-walk
invariant-walk l = record {
  listed : IsListedIn l.order l.goal l.far l.t;
  reaches : (n : ℕ) × Walk (IsEdge l.order) n l.t l.goal;
  way : IsWayTo l.order l.fn.start l.goal l.list.items l.t;
}

abbrev pub decreases-walk : goal.decreases-walk
decreases-walk l = length l.order.positions - position_of l.order l.t
