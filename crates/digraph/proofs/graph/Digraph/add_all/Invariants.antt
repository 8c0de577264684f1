use Rattle.std.proofs.Common.{◌≡◌, ℕ, length, ◌⊎◌, take}
use Rattle.std.specs.Prelude.{Contains, ◌↔◌}
use Rattle.digraph.specs.calls.Graph.{HasEdge}
use Rattle.digraph.proofs.graph.Digraph.add_all.Given as goal

abbrev pub invariant-loop-b : goal.invariant-loop-b
invariant-loop-b l = record {
  nodes : length l.self ≡ length l.initial.self;
  edges : (i j : ℕ) → HasEdge l.self i j ↔ (HasEdge l.initial.self i j ⊎ ((i ≡ l.a) × Contains (take l.b-index l.list) j));
}
