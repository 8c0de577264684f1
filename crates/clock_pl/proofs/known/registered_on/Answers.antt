use Rattle.clock_pl.proofs.Rows.{marked_more}
use Rattle.clock_pl.proofs.known.registered_on.Goals as goal

pub loop-p-preserved : goal.loop-p-preserved
loop-p-preserved c = marked_more c.args.on.now c.loop-p.p-index c.loop-p.row c.mark.new.self _ c.loop-p-test.true c.loop-p.invariant c.in_ok-mark.ensures.ok
