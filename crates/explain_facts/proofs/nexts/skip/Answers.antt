use Rattle.explain_facts.proofs.Firsts.{skipped}
use Rattle.explain_facts.proofs.nexts.skip.Goals as goal

pub loop-preserved : goal.loop-preserved
loop-preserved c = skipped c.args.ops.now c.loop.ops c.next.new.self c.loop.counter c.next.result c.loop.invariant c.next.ensures.some c.next.ensures.none
