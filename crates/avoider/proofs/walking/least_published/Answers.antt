use Rattle.std.proofs.Common.{◌≡◌, ◌<◌, ap, arith, length, subst}
use Rattle.armus_base.specs.Plans.{Plan}
use Rattle.avoider.specs.calls.Decisions.{supposed_statuses}
use Rattle.avoider.specs.inside.Walks.{IsUnder}
use Rattle.avoider.proofs.Walked.{under_more}
use Rattle.avoider.proofs.walking.least_published.Goals as goal

pub loop-u-preserved : goal.loop-u-preserved
loop-u-preserved c =
    under_more (supposed_statuses c.args.world.now c.args.t.0 c.args.event) c.loop-u.u c.loop-u.invariant (c.may_be_dead.ensures c.if-may_be_dead.false)

pub returns-then-may_be_dead : goal.returns-then-may_be_dead
returns-then-may_be_dead c =
    let lt : c.loop-u.u < length c.args.world.now.plan.parents =
    omega (arith, c.loop-u-test.true, c.loop-u.auto.u-end, c.tasks-u-end.ensures.counted, ap (λ (p : Plan). length p.parents) c.plan.ensures.plan) in
    (lt, c.loop-u.invariant)

pub returns : goal.returns
returns c =
    let all : c.loop-u.u ≡ length c.args.world.now.plan.parents =
    omega (arith, c.loop-u-test.false, c.loop-u.auto.u-end, c.tasks-u-end.ensures.counted, ap (λ (p : Plan). length p.parents) c.plan.ensures.plan) in
    subst (IsUnder (supposed_statuses c.args.world.now c.args.t.0 c.args.event)) all c.loop-u.invariant
