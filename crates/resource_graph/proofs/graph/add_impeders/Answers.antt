use Rattle.std.proofs.Common.{◌≡◌, length, arith, ◌∙◌, ap, inl, inr}
use Rattle.digraph.specs.calls.Graph.{HasEdge}
use Rattle.dep_state.specs.calls.Deps.{impeders_of}
use Rattle.digraph.proofs.AddedEdges.{later_more}
use Rattle.resource_graph.proofs.graph.add_impeders.Goals as goal

pub loop-e-preserved : goal.loop-e-preserved
loop-e-preserved c =
    let e = c.in_ok-add_all.ensures.edges.edges in
    record {
      nodes = c.in_ok-add_all.ensures.nodes ∙ c.loop-e.invariant.nodes;
      edges = later_more (HasEdge c.args.graph.now) _ _ (λ i. impeders_of c.args.deps.now i) (length c.args.deps.now.tasks) c.loop-e.e c.loop-e.invariant.edges
          (rw (c.tasks.ensures.tasks, c.impeders_at.ensures.impeders) at e);
    }

pub returns-clause-edges : goal.returns-clause-edges
returns-clause-edges c x y =
    let n : c.loop-e.e ≡ length c.args.deps.now.events = omega (arith, ap length c.events.ensures.events) in
    let inv = rw n at (c.loop-e.invariant.edges x y) in
    let old = c.requires.awaits x y in (
      λ h. elim (inv.0 h) [ inl l ↦ inl (old.0 l) | inr r ↦ inr r ],
      λ h. inv.1 (elim h [ inl l ↦ inl (old.1 l) | inr r ↦ inr r ]),
    )
