use Rattle.std.proofs.Common.{◌≡◌, ℕ, ◌<◌, length}
use Rattle.std.specs.Prelude.{◌↔◌}
use Rattle.digraph.specs.calls.Graph.{HasEdge}
use Rattle.state_graph.proofs.WholePairs.{IsPairBy}
use Rattle.state_graph.proofs.whole.whole.Given as goal

abbrev pub invariant-loop-e : goal.invariant-loop-e
invariant-loop-e l = record {
  nodes : length l.graph ≡ length l.deps.events;
  edges : (i j : ℕ) → HasEdge l.graph i j ↔ ((i < l.e) × IsPairBy l.deps i j);
}
