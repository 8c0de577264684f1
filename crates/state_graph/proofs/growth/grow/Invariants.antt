use Rattle.std.proofs.Common.{◌+◌}
use Rattle.digraph.specs.calls.Graph.{graph_of}
use Rattle.state_graph.specs.inside.Growing.{IsGrown, RowsAscend, StaysSmallBelow}
use Rattle.state_graph.proofs.growth.grow.Given as goal

abbrev pub invariant-loop-k : goal.invariant-loop-k
invariant-loop-k l = record {
  grown : IsGrown l.deps l.k l.growth.graph l.growth.seen.items l.growth.next.items (graph_of l.growth.waiting.items);
  small : RowsAscend l.deps → StaysSmallBelow l.deps (l.k + 1);
}
