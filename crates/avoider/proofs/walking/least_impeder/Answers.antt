use Rattle.std.proofs.Common.{arith, length}
use Rattle.armus_base.specs.States.{State, if_published}
use Rattle.pl_core.specs.calls.Worlds.{state_of}
use Rattle.avoider.proofs.Walked.{passed_more, passed_on}
use Rattle.avoider.proofs.walking.least_impeder.Goals as goal

pub impeding-preserved : goal.impeding-preserved
impeding-preserved c =
    let s : State = if_published (state_of c.args.world.now) c.args.t.0 c.args.event in
    let u = c.in-Some.u in
    let inv = c.impeding.invariant in
    let (on, impedes, none) = c.in-Some.ensures.next in
    let before = passed_on s c.args.awaited c.args.alive.now c.impeding.next u.0 inv.passed none in
    record {
      inside = omega (arith, c.in-Some.ensures.inside);
      passed = passed_more s c.args.awaited c.args.alive.now u.0 before (λ imp. c.if-not-alive-u.false);
    }

pub returns-then-not-alive-u : goal.returns-then-not-alive-u
returns-then-not-alive-u c =
    let s : State = if_published (state_of c.args.world.now) c.args.t.0 c.args.event in
    let u = c.in-Some.u in
    let (on, impedes, none) = c.in-Some.ensures.next in
    (c.in-Some.ensures.inside, impedes, passed_on s c.args.awaited c.args.alive.now c.impeding.next u.0 c.impeding.invariant.passed none)

pub returns : goal.returns
returns c =
    let s : State = if_published (state_of c.args.world.now) c.args.t.0 c.args.event in
    passed_on s c.args.awaited c.args.alive.now c.impeding.next (length c.args.world.now.plan.parents) c.impeding.invariant.passed (λ u on lt. c.in_default.ensures.next u on)
