use Rattle.std.proofs.Common.{◌≡◌, length}
use Rattle.order_graph.specs.inside.Gathered.{AreOwnPlaces}
use Rattle.order_graph.proofs.waits.own_places.Given as goal

abbrev pub invariant-loop-k : goal.invariant-loop-k
invariant-loop-k l = record {
  sized : length l.own.items ≡ l.tasks;
  own : AreOwnPlaces l.deps l.k l.own.items;
}
