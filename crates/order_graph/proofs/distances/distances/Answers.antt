use Rattle.std.proofs.Common.{arith}
use Rattle.order_graph.proofs.NearestTasks.{ahead_of_end, tells_more}
use Rattle.order_graph.proofs.distances.distances.Goals as goal

pub loop-k-preserved : goal.loop-k-preserved
loop-k-preserved c =
    let (b, is) = c.requires.stretch in
    let (task, at) = ahead_of_end c.args.order.now b c.args.goal c.args.stretch.now is c.loop-k.k (record { 0 = 0 }) (omega arith) in
    record {
      sized = omega (arith, c.loop-k.invariant.sized, c.in_ok-push.ensures.len);
      tells = rw c.in_ok-push.ensures.items (tells_more c.args.order.now c.requires.order c.args.goal c.loop-k.far.items _ c.in_ok-found.found
          c.loop-k.invariant.tells task (omega (arith, at, c.loop-k.invariant.sized)) c.in_ok-found.ensures);
    }
