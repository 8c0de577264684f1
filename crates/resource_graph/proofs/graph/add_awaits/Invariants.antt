use Rattle.std.proofs.Common.{◌≡◌, ℕ, ◌+◌, ◌<◌, length}
use Rattle.std.specs.Prelude.{◌↔◌, slice_index}
use Rattle.digraph.specs.calls.Graph.{HasEdge}
use Rattle.resource_graph.proofs.graph.add_awaits.Given as goal

abbrev pub invariant-loop-k : goal.invariant-loop-k
invariant-loop-k l = record {
  nodes : length l.graph ≡ length l.initial.graph;
  edges : (x y : ℕ) → HasEdge l.graph x y ↔ ((x < l.k) × (y ≡ length l.deps.tasks + slice_index l.deps.awaits x));
}
