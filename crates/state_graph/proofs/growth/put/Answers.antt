use Rattle.std.proofs.Common.{inl, inr, ◌∙◌, sym, ap, ◌<◌, get_or, length, arith}
use Rattle.std.proofs.lemmas.List.Elements.{All-get_or}
use Rattle.digraph.proofs.RowLemmas.{graph_adds}
use Rattle.digraph.proofs.AddedEdges.{push_members}
use Rattle.state_graph.proofs.growth.put.Goals as goal

pub returns-in_ok-push-clause-rows : goal.returns-in_ok-push-clause-rows
returns-in_ok-push-clause-rows c =
    let row = c.impeders_at-row.ensures.impeders in
    let inside = All-get_or (λ t. t < length c.args.deps.now.tasks) c.impeders_at-row.result.now c.args.at 0 c.if-at-row.true c.impeders_at-row.ensures.inside in
    let lt : get_or c.impeders_at-row.result.now c.args.at 0 < length c.args.waiting.now.items = omega (arith, c.requires.sized) in
    let adds = graph_adds _ _ _ c.push.new.self lt c.index_mut.ensures.value c.args.event
    (λ x. rw c.in_ok-push.ensures.items (push_members c.index_mut.result.now.items c.args.event x)) in
    λ t e. (
      λ h. elim ((adds.edges t e).0 h) [ inl l ↦ inl l | inr r ↦ inr (rw row at c.if-at-row.true, r.0 ∙ ap (λ v. get_or v c.args.at 0) row, r.1) ],
      λ h. (adds.edges t e).1 (elim h [ inl l ↦ inl l | inr r ↦ inr (r.1 ∙ sym (ap (λ v. get_or v c.args.at 0) row), r.2) ]),
    )
