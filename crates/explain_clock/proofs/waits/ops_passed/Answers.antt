use Rattle.std.proofs.Common.{◌+◌, arith, refl}
use Rattle.armus_base.specs.Plans.{code_of}
use Rattle.explain_clock.proofs.PassedOps.{passing_next, passing_some}
use Rattle.explain_clock.proofs.waits.ops_passed.Goals as goal

pub unreachable-requires : goal.unreachable-requires
unreachable-requires c =
    passing_some (code_of c.args.world.now.plan c.args.t.0) c.loop.counter c.loop.waits c.loop.pending c.loop.cursor c.loop.invariant
    (let lt = c.loop-test.true in let few = c.requires.within in omega arith) c.in_default.ensures.none.0

pub loop-preserved : goal.loop-preserved
loop-preserved c =
    passing_next (code_of c.args.world.now.plan c.args.t.0) c.loop.counter c.loop.waits c.loop.pending c.loop.cursor c.loop.invariant
    (let lt = c.loop-test.true in let few = c.requires.within in omega arith) c.in-Some.op c.next.new.self c.wait_count-waits.result
    (c.loop.waits + c.wait_count-waits.result) c.mark.new.pending c.in-Some.ensures.some c.wait_count-waits.ensures refl c.in_ok-mark.ensures
