use Rattle.std.proofs.Common.{◌≡◌, length, arith, ◌∙◌, ap}
use Rattle.std.specs.Prelude.{slice_index}
use Rattle.dep_state.specs.calls.Deps.{impeders_of}
use Rattle.digraph.proofs.AddedEdges.{node_more}
use Rattle.wait_graph.proofs.graph.WaitGraph.build.Goals as goal

pub loop-i-preserved : goal.loop-i-preserved
loop-i-preserved c =
    let e = c.in_ok-add_all.ensures.edges.edges in
    let f = rw (c.impeders_at.ensures.impeders, c.awaits_at-event.ensures.event) at e in
    record {
      nodes = c.in_ok-add_all.ensures.nodes ∙ c.loop-i.invariant.nodes;
      edges = node_more _ _ (λ i. impeders_of c.args.deps.now (slice_index c.args.deps.now.awaits i)) c.loop-i.i c.loop-i.invariant.edges f;
    }

pub returns : goal.returns
returns c =
    let n : c.loop-i.i ≡ length c.args.deps.now.tasks =
    omega (arith, c.len-count.ensures, c.in_ok-tasks.ensures.len, ap length c.tasks.ensures.tasks) in
    record {
      tasks = c.in_ok-tasks.ensures.items ∙ c.tasks.ensures.tasks;
      edges = rw n at c.loop-i.invariant.edges;
    }
