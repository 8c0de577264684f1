use Rattle.std.proofs.Common.{drop}
use Rattle.digraph.specs.calls.Graph.{graph_of}
use Rattle.state_graph.specs.inside.Growing.{IsGrowing}
use Rattle.state_graph.proofs.growth.follow_all.Given as goal

abbrev pub invariant-loop-event : goal.invariant-loop-event
invariant-loop-event l = IsGrowing l.deps l.k (drop l.event-index l.due) l.growth.graph l.growth.seen.items l.growth.next.items (graph_of l.growth.waiting.items)
