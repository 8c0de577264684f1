use Rattle.clock_pl.proofs.Listing.{regs_more}
use Rattle.clock_pl.proofs.activities.start_ops.Goals as goal

pub loop-p-preserved : goal.loop-p-preserved
loop-p-preserved c =
    regs_more c.args.c c.args.on.now c.loop-p.p-index c.loop-p.ops.items c.push.new.self.items _ c.loop-p-test.true c.loop-p.invariant c.in_ok-push.ensures.items
