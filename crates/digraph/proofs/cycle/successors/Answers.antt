use Rattle.std.proofs.Common.{length}
use Rattle.digraph.proofs.NextTables.{next_more}
use Rattle.digraph.proofs.cycle.successors.Goals as goal

pub loop-k-preserved : goal.loop-k-preserved
loop-k-preserved c =
    rw c.in_ok-push.ensures.items
    (next_more _ (length c.args.rows.now) c.loop-k.k c.loop-k.next.items c.successor.result c.loop-k.invariant c.successor.ensures.inside c.successor.ensures.step)
