use Rattle.std.proofs.Common.{◌≡◌, ℕ, ◌<◌, length}
use Rattle.std.specs.Prelude.{Contains, ◌↔◌, slice_index}
use Rattle.digraph.specs.calls.Graph.{HasEdge}
use Rattle.dep_state.specs.calls.Deps.{impeders_of}
use Rattle.wait_graph.proofs.graph.WaitGraph.build.Given as goal

abbrev pub invariant-loop-i : goal.invariant-loop-i
invariant-loop-i l = record {
  nodes : length l.graph ≡ length l.deps.tasks;
  edges : (i j : ℕ) → HasEdge l.graph i j ↔ ((i < l.i) × Contains (impeders_of l.deps (slice_index l.deps.awaits i)) j);
}
