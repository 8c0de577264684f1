use Rattle.std.proofs.Common.{◌∙◌, arith, subst, sym}
use Rattle.std.specs.Prelude.{Contains, IfOk, List}
use Rattle.std.proofs.lemmas.Result.{IfOk-weaker}
use Rattle.armus_base.specs.Graphs.{WaitsFor}
use Rattle.armus_base.specs.calls.Statuses.{IsInOrder}
use Rattle.armus_base.specs.declared.status.Status.{Status}
use Rattle.order_graph.specs.calls.Following.{AnswersFollow, AnswersFollowing}
use Rattle.order_graph.specs.calls.Waits.{AreWaitsAmong, Awaits}
use Rattle.order_graph.proofs.PairEdges.{follows_same}
use Rattle.avoider.specs.calls.Decisions.{supposed_statuses}
use Rattle.avoider.proofs.Followed.{deps_tasks, supposed_tasks}
use Rattle.avoider.proofs.Supposing.{supposed_in_order}
use Rattle.avoider.proofs.kept.follow_world.Goals as goal

pub follow_waits-requires : goal.follow_waits-requires
follow_waits-requires c = subst (λ n. AreWaitsAmong n c.in-Some.waits) (sym c.requires.tasks) (rw c.in-Some.is at c.in_ok-waits.ensures.among)

pub returns-in-Some-clause-followed : goal.returns-in-Some-clause-followed
returns-in-Some-clause-followed c =
    let ss = supposed_statuses c.args.world.now c.args.t.0 c.args.event in
    let old = c.args.order.now in
    let new = c.follow_waits.new.self in
    let w = c.in-Some.waits in
    IfOk-weaker c.follow_waits.result (AnswersFollowing (Awaits w) old new) (AnswersFollow ss old new)
    (follows_same (Awaits w) (WaitsFor ss) old new (rw c.in-Some.is at c.in_ok-waits.ensures.pairs)) c.follow_waits.ensures.followed

pub of-requires : goal.of-requires
of-requires c =
    subst IsInOrder (sym (c.as_slice.ensures.items ∙ c.in_ok-list-in-None.ensures.statuses)) (supposed_in_order c.args.world.now c.requires.checked c.args.t.0 c.args.event)

pub follow-requires : goal.follow-requires
follow-requires c =
    let same = c.as_slice.ensures.items ∙ c.in_ok-list-in-None.ensures.statuses in
    deps_tasks c.as_slice.result.now c.in_ok-deps-in-None.deps c.in_ok-deps-in-None.ensures c.args.order.now (λ s m.
    let task = supposed_tasks c.args.world.now c.requires.checked c.args.t.0 c.args.event s (subst (λ (ss : List Status). Contains ss s) same m) in omega (arith, task, c.requires.tasks))

pub returns-in_ok-deps-in-None-clause-followed : goal.returns-in_ok-deps-in-None-clause-followed
returns-in_ok-deps-in-None-clause-followed c =
    let same = c.as_slice.ensures.items ∙ c.in_ok-list-in-None.ensures.statuses in
    let ok = subst IsInOrder (sym same) (supposed_in_order c.args.world.now c.requires.checked c.args.t.0 c.args.event) in
    let followed = c.follow.ensures.followed c.as_slice.result.now ok c.in_ok-deps-in-None.ensures in
    subst (λ (ss : List Status). IfOk c.follow.result (AnswersFollow ss c.args.order.now c.follow.new.self)) same followed
