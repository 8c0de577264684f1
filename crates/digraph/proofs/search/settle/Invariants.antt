use Rattle.std.proofs.Common.{◌≡◌}
use Rattle.digraph.specs.calls.Graph.{graph_of}
use Rattle.digraph.specs.inside.Search.{IsSearch, KeepsMarked, mark_of, work}
use Rattle.digraph.specs.declared.search.Mark.TheVariants.{Unvisited}
use Rattle.digraph.proofs.search.settle.Given as goal

abbrev pub invariant-search : goal.invariant-search
invariant-search l = record {
  search : IsSearch (graph_of l.rows) l.marks.items l.left.items l.stack.items;
  stays : KeepsMarked l.fn.marks.items l.marks.items;
  marked : mark_of l.marks.items l.node ≡ Unvisited → ⊥;
}

abbrev pub decreases-search : goal.decreases-search
decreases-search l = work l.left.items l.marks.items l.stack.items
