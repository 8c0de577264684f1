use Rattle.std.proofs.Common.{◌≡◌, ℕ, ◌≤◌, ◌<◌, length, ◌⊎◌}
use Rattle.std.specs.Prelude.{◌↔◌, slice_index}
use Rattle.digraph.specs.calls.Graph.{HasEdge}
use Rattle.state_graph.specs.inside.Growing.{IsPairBetween}
use Rattle.state_graph.proofs.growth.add_impeders.Given as goal

abbrev pub invariant-loop-at : goal.invariant-loop-at
invariant-loop-at l = record {
  nodes : length l.graph ≡ length l.initial.graph;
  below : (m : ℕ) → l.from ≤ m → m < l.at → slice_index l.row m ≤ l.k;
  edges : (i j : ℕ) → HasEdge l.graph i j ↔ (HasEdge l.initial.graph i j ⊎ IsPairBetween l.deps l.event l.from l.at i j);
}
