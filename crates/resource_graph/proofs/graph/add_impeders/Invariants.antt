use Rattle.std.proofs.Common.{◌≡◌, ℕ, ◌+◌, ◌<◌, length, ◌⊎◌}
use Rattle.std.specs.Prelude.{Contains, ◌↔◌}
use Rattle.digraph.specs.calls.Graph.{HasEdge}
use Rattle.dep_state.specs.calls.Deps.{impeders_of}
use Rattle.resource_graph.proofs.graph.add_impeders.Given as goal

abbrev pub invariant-loop-e : goal.invariant-loop-e
invariant-loop-e l = record {
  nodes : length l.graph ≡ length l.initial.graph;
  edges : (x y : ℕ) → HasEdge l.graph x y ↔ (HasEdge l.initial.graph x y ⊎ ((i : ℕ) × (i < l.e) × (x ≡ length l.deps.tasks + i) × Contains (impeders_of l.deps i) y));
}
