use Rattle.std.proofs.Common.{◌≡◌, ◌+◌, length, arith, refl, ◌∙◌, ap}
use Rattle.std.specs.Prelude.{slice_index}
use Rattle.digraph.proofs.AddedEdges.{single_more}
use Rattle.resource_graph.proofs.graph.add_awaits.Goals as goal

pub loop-k-init : goal.loop-k-init
loop-k-init c = record { nodes = refl; edges = λ x y. (λ h. absurd (c.requires.none x y h), λ (lt, e). absurd (omega arith)) }

pub loop-k-preserved : goal.loop-k-preserved
loop-k-preserved c =
    let e = c.in_ok-add.ensures.edges in
    record {
      nodes = e.nodes ∙ c.loop-k.invariant.nodes;
      edges = single_more _ _ (λ x. length c.args.deps.now.tasks + slice_index c.args.deps.now.awaits x) c.loop-k.k c.loop-k.invariant.edges
          (rw (c.tasks.ensures.tasks, c.awaits_at-event.ensures.event) at e);
    }

pub returns-clause-edges : goal.returns-clause-edges
returns-clause-edges c =
    let n : c.loop-k.k ≡ length c.args.deps.now.tasks = omega (arith, ap length c.tasks.ensures.tasks) in
    rw n at c.loop-k.invariant.edges
