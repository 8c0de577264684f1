use Rattle.std.proofs.Common.{get_or, sym, ◌∙◌}
use Rattle.std.proofs.lemmas.List.Elements.{Contains-get_or}
use Rattle.armus_base.specs.declared.ids.TaskId.{TaskId}
use Rattle.dep_state.proofs.DeadSets.{same_task}
use Rattle.avoider.specs.calls.Decisions.{supposed_statuses}
use Rattle.avoider.proofs.Walked.{events_more, listed_from, listed_is}
use Rattle.avoider.proofs.walking.events_of.Goals as goal

pub published-requires-clause-task : goal.published-requires-clause-task
published-requires-clause-task c =
    let at = c.plan-plan.ensures in
    let d : TaskId = record { 0 = 0 } in
    let u : TaskId = get_or c.args.tasks.now c.loop-u.u-index d in
    (listed_is c.args.world.now at.checked at.reachable c.args.t.0 c.requires.task c.args.event u
    (c.requires.awaiting u (Contains-get_or c.args.tasks.now c.loop-u.u-index d c.loop-u-test.true))).1

pub unreachable-requires : goal.unreachable-requires
unreachable-requires c =
    let at = c.plan-plan.ensures in
    let d : TaskId = record { 0 = 0 } in
    let u : TaskId = get_or c.args.tasks.now c.loop-u.u-index d in
    let listed = listed_is c.args.world.now at.checked at.reachable c.args.t.0 c.requires.task c.args.event u
    (c.requires.awaiting u (Contains-get_or c.args.tasks.now c.loop-u.u-index d c.loop-u-test.true)) in
    let both = sym c.in-None.is ∙ c.published.ensures.event ∙ listed.2 in
    absurd (cc)

pub loop-u-preserved : goal.loop-u-preserved
loop-u-preserved c =
    let at = c.plan-plan.ensures in
    let w = c.args.world.now in
    let d : TaskId = record { 0 = 0 } in
    let u : TaskId = get_or c.args.tasks.now c.loop-u.u-index d in
    let listed = listed_is w at.checked at.reachable c.args.t.0 c.requires.task c.args.event u
    (c.requires.awaiting u (Contains-get_or c.args.tasks.now c.loop-u.u-index d c.loop-u-test.true)) in
    let status = listed_from w at.checked at.reachable c.args.t.0 c.requires.task c.args.event u c.in-Some.awaited listed.1 (sym c.published.ensures.event ∙ c.in-Some.is) in
    rw c.in_ok-push-in-Some.ensures.items
    (events_more (supposed_statuses w c.args.t.0 c.args.event) c.args.tasks.now c.loop-u.events.items c.loop-u.u-index c.in-Some.awaited d c.loop-u-test.true c.loop-u.invariant
    (status.0, status.1, same_task status.0.t u status.2, status.3))
