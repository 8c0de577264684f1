use Rattle.std.proofs.Common.{arith}
use Rattle.pl_core.specs.calls.Worlds.{state_of}
use Rattle.avoider.proofs.OnNoCycle.{go_on_more}
use Rattle.avoider.proofs.step.behind_those_that_go_on.Goals as goal

pub loop-u-preserved : goal.loop-u-preserved
loop-u-preserved c =
    go_on_more (state_of c.args.world.now) c.args.t.0 c.args.from c.loop-u.u c.loop-u.invariant (c.goes_on.ensures c.if-not-goes_on.false)

pub returns-clause-go_on : goal.returns-clause-go_on
returns-clause-go_on c = λ v l m. c.loop-u.invariant v l (omega (arith, m, c.loop-u-test.false, c.loop-u.auto.u-end))
