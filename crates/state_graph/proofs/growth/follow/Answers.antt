use Rattle.std.proofs.Common.{◌≡◌, ◌⊎◌, arith, get_or, length, ◌∙◌, sym, subst, ℕ}
use Rattle.std.specs.Prelude.{◌↔◌}
use Rattle.std.proofs.lemmas.List.{get_or_default, length-map}
use Rattle.digraph.specs.calls.Graph.{graph_of, HasEdge}
use Rattle.dep_state.specs.calls.Deps.{impeders_of}
use Rattle.state_graph.specs.inside.Growing.{IsPairBetween, IsPassing}
use Rattle.state_graph.proofs.FollowedEvent.{followed}
use Rattle.state_graph.proofs.growth.follow.Goals as goal

pub returns : goal.returns
returns c left h =
    let d = c.args.deps.now in
    let from : c.index.result.now ≡ get_or c.args.growth.now.next.items c.args.event 0 =
    c.index.ensures ∙ get_or_default c.args.growth.now.next.items c.args.event c.index.result.now 0 (omega (arith, c.requires.event, c.requires.sized.places)) in
    let passing = subst (λ n. IsPassing (impeders_of d c.args.event) c.args.k n c.in_ok-at.at) from c.in_ok-at.ensures.place in
    let adds = subst (λ n. (i j : ℕ) → HasEdge c.add_impeders.new.graph i
    j ↔ (HasEdge c.args.growth.now.graph i j ⊎ IsPairBetween d c.args.event n c.in_ok-at.at i j)) from c.in_ok-at.ensures.edges in
    followed d c.args.k c.args.event left c.args.growth.now.graph c.args.growth.now.seen.items c.args.growth.now.next.items (graph_of c.args.growth.now.waiting.items) h
    c.requires.event c.in_ok-at.at c.add_impeders.new.graph (graph_of c.put.new.waiting.items) passing c.add_impeders.ensures.nodes adds
    (length-map c.put.new.waiting.items (λ r. r.items) ∙ c.put.ensures.sized ∙ sym (length-map c.args.growth.now.waiting.items (λ r. r.items))) c.in_ok-put.ensures.rows
