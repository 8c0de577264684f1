use Rattle.std.proofs.Common.{arith, length}
use Rattle.armus_base.specs.States.{State, if_published}
use Rattle.pl_core.specs.calls.Worlds.{state_of}
use Rattle.avoider.proofs.WorldWaits.{impeders_more, impeders_on}
use Rattle.avoider.proofs.waiting.impeders.Goals as goal

pub impeding-preserved : goal.impeding-preserved
impeding-preserved c =
    let s : State = if_published (state_of c.args.world.now) c.args.t.0 c.args.event in
    let u = c.in-Some.u in
    let inv = c.impeding.invariant in
    let (on, impedes, none) = c.in-Some.ensures.next in
    let before = impeders_on s c.impeding.next u.0 c.args.awaited c.impeding.row inv.are on none in
    record {
      inside = omega (arith, c.in-Some.ensures.inside);
      are = impeders_more s u c.args.awaited c.impeding.row before c.put.new.self impedes c.in_ok-put.ensures.members;
    }

pub returns : goal.returns
returns c =
    let s : State = if_published (state_of c.args.world.now) c.args.t.0 c.args.event in
    let inv = c.impeding.invariant in
    impeders_on s c.impeding.next (length c.args.world.now.plan.parents) c.args.awaited c.impeding.row inv.are inv.inside (λ u on lt. c.in_default.ensures.next u on)
