use Rattle.std.proofs.Common.{◌+◌}
use Rattle.pl_core.specs.calls.Worlds.{state_of}
use Rattle.avoider.proofs.OnNoCycle.{impeders_all, impeders_behind, impeders_more}
use Rattle.avoider.proofs.step.impeders_go_on.Goals as goal

pub impeders-preserved : goal.impeders-preserved
impeders-preserved c =
    let inv = c.impeders.invariant in
    let (on, impedes, none) = c.in-Some.ensures.next in
    let goes = c.goes_on.ensures c.if-not-goes_on.false in
    let s = state_of c.args.world.now in
    let more = impeders_more s c.args.t.0 c.args.event c.impeders.next c.in-Some.u.0 inv.before none goes.0 goes.1 in
    record {
      inside = c.behind_those_that_go_on-next.ensures.inside;
      before = impeders_behind s c.args.t.0 c.args.event (c.in-Some.u.0 + 1) c.behind_those_that_go_on-next.result more c.behind_those_that_go_on-next.ensures.go_on;
    }

pub returns : goal.returns
returns c = λ _ n.
    impeders_all (state_of c.args.world.now) c.args.t.0 c.args.event c.impeders.next n c.impeders.invariant.before (λ v on. c.in_default.ensures.next v on)
