use Rattle.std.proofs.Common.{◌≡◌, ℕ, ◌<◌, []}
use Rattle.digraph.specs.calls.Graph.{graph_of}
use Rattle.digraph.specs.inside.Search.{IsSearch, mark_of}
use Rattle.digraph.specs.declared.search.Mark.TheVariants.{Unvisited}
use Rattle.digraph.proofs.search.settle_all.Given as goal

abbrev pub invariant-loop-node : goal.invariant-loop-node
invariant-loop-node l = record {
  search : IsSearch (graph_of l.rows) l.marks.items l.left.items [];
  marked : (v : ℕ) → v < l.node → mark_of l.marks.items v ≡ Unvisited → ⊥;
}
