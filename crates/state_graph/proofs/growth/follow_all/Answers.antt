use Rattle.std.proofs.Common.{◌+◌, ◌<◌, arith, length, subst, drop, ℕ, List, get_or}
use Rattle.std.specs.Prelude.{Contains}
use Rattle.std.proofs.lemmas.List.{drop_more, drop_all}
use Rattle.armus_base.proofs.Elements.{Contains-head}
use Rattle.digraph.specs.calls.Graph.{graph_of}
use Rattle.state_graph.specs.inside.Growing.{IsGrowing}
use Rattle.state_graph.proofs.FollowedEvent.{due_inside, due_within}
use Rattle.state_graph.proofs.GrowingPairs.{grown_more}
use Rattle.state_graph.proofs.growth.follow_all.Goals as goal

-- the first of what is left
first_left : (xs : List ℕ) (i : ℕ) → i < length xs → Contains (drop i xs) (get_or xs i 0)
first_left xs i lt = rw (drop_more xs i 0 lt) (Contains-head (get_or xs i 0) (drop (i + 1) xs))

pub follow-requires-clause-sized : goal.follow-requires-clause-sized
follow-requires-clause-sized c = c.loop-event.invariant.sized

pub follow-requires-clause-event : goal.follow-requires-clause-event
follow-requires-clause-event c = due_inside _ _ _ _ _ _ _ c.loop-event.invariant _ (first_left c.args.due.now c.loop-event.event-index c.loop-event-test.true)

pub follow-requires-clause-from : goal.follow-requires-clause-from
follow-requires-clause-from c = due_within _ _ _ _ _ _ _ c.loop-event.invariant _ (first_left c.args.due.now c.loop-event.event-index c.loop-event-test.true)

pub loop-event-preserved : goal.loop-event-preserved
loop-event-preserved c =
    let more = drop_more c.args.due.now c.loop-event.event-index 0 c.loop-event-test.true in
    let inv = c.loop-event.invariant in
    c.in_ok-follow.ensures (drop (c.loop-event.event-index + 1) c.args.due.now)
    (subst (λ left. IsGrowing c.args.deps.now c.args.k left c.loop-event.growth.graph c.loop-event.growth.seen.items c.loop-event.growth.next.items
    (graph_of c.loop-event.growth.waiting.items)) more inv)

pub returns : goal.returns
returns c =
    let inv = c.loop-event.invariant in
    let none = drop_all c.loop-event.event-index c.args.due.now (let past = c.loop-event-test.false in omega arith) in
    grown_more _ _ _ _ _ _
    (subst (λ left. IsGrowing c.args.deps.now c.args.k left c.loop-event.growth.graph c.loop-event.growth.seen.items c.loop-event.growth.next.items
    (graph_of c.loop-event.growth.waiting.items)) none inv)
