use Rattle.std.proofs.Common.{◌≡◌, ℕ, arith, sym, ◌∙◌, refl, get_or, inl, inr}
use Rattle.std.proofs.lemmas.List.{take_all}
use Rattle.digraph.specs.calls.Graph.{HasEdge}
use Rattle.digraph.proofs.AddedEdges.{any_more}
use Rattle.state_graph.proofs.whole.add_awaits.Goals as goal

pub loop-u-preserved : goal.loop-u-preserved
loop-u-preserved c =
    let inv = c.loop-u.invariant in
    let x : ℕ = get_or c.impeders_at-u-items.result.now c.loop-u.u-index 0 in
    let Adds : ℕ → ℕ → ℕ → Type 0 = λ u i j. (i ≡ c.args.event) × (j ≡ get_or c.args.deps.now.awaits u 0) in
    let e = c.in_ok-add.ensures.edges in
    let at = c.awaits_at.ensures.event in
    record {
      nodes = e.nodes ∙ inv.nodes;
      edges = any_more (HasEdge c.args.graph.now) (HasEdge c.loop-u.graph) (HasEdge c.add.new.self) Adds c.impeders_at-u-items.result.now c.loop-u.u-index x
          (omega arith) refl inv.edges (λ i j. (
            λ h. elim ((e.edges i j).0 h) [ inl l ↦ inl l | inr r ↦ inr (r.0, r.1 ∙ at) ],
            λ h. (e.edges i j).1 (elim h [ inl l ↦ inl l | inr r ↦ inr (r.0, r.1 ∙ sym at) ]),
          ));
    }

pub returns-clause-edges : goal.returns-clause-edges
returns-clause-edges c =
    let t = take_all c.loop-u.u-index c.impeders_at-u-items.result.now (omega arith) in
    rw (← c.impeders_at-u-items.ensures.impeders) (rw t at c.loop-u.invariant.edges)
