use Rattle.std.proofs.Common.{length, arith, ◌∙◌, ap}
use Rattle.state_graph.proofs.WholePairs.{event_more, all_pairs}
use Rattle.state_graph.proofs.whole.whole.Goals as goal

pub loop-e-preserved : goal.loop-e-preserved
loop-e-preserved c =
    record {
      nodes = c.add_awaits.ensures.nodes ∙ c.loop-e.invariant.nodes;
      edges = event_more c.args.deps.now _ _ c.loop-e.e c.loop-e.invariant.edges c.in_ok-add_awaits.ensures.edges;
    }

pub returns : goal.returns
returns c =
    record {
      nodes = c.loop-e.invariant.nodes;
      pairs = all_pairs c.args.deps.now c.events.ensures.formed _ c.loop-e.e (omega (arith, ap length c.events.ensures.events)) c.loop-e.invariant.edges;
    }
