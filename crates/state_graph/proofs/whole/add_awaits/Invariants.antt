use Rattle.std.proofs.Common.{◌≡◌, ℕ, length, ◌⊎◌, take}
use Rattle.std.specs.Prelude.{Contains, ◌↔◌, slice_index}
use Rattle.digraph.specs.calls.Graph.{HasEdge}
use Rattle.state_graph.proofs.whole.add_awaits.Given as goal

abbrev pub invariant-loop-u : goal.invariant-loop-u
invariant-loop-u l = record {
  nodes : length l.graph ≡ length l.initial.graph;
  edges : (i j : ℕ) → HasEdge l.graph i j ↔ (HasEdge l.initial.graph i j ⊎ ((u : ℕ) × Contains (take l.u-index l.u-items) u × ((i ≡ l.event) × (j ≡ slice_index l.deps.awaits u))));
}
