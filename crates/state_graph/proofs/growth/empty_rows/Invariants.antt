use Rattle.std.proofs.Common.{◌≡◌, [], replicate}
use Rattle.digraph.specs.calls.Graph.{graph_of}
use Rattle.state_graph.proofs.growth.empty_rows.Given as goal

abbrev pub invariant-loop : goal.invariant-loop
invariant-loop l = graph_of l.rows.items ≡ replicate l.counter []
