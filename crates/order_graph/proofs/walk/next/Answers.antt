use Rattle.std.proofs.Common.{arith}
use Rattle.order_graph.proofs.NearestTasks.{listed_next, none_near}
use Rattle.order_graph.proofs.walk.next.Goals as goal

pub unreachable-requires : goal.unreachable-requires
unreachable-requires c =
    let (n, w) = c.requires.reaches in
    none_near c.args.order.now c.requires.order c.args.goal c.args.t c.requires.other (rw c.in-None.is at c.in_ok-found.ensures) n w

pub nearest-requires-clause-listed : goal.nearest-requires-clause-listed
nearest-requires-clause-listed c next h = listed_next c.args.order.now c.requires.order c.args.goal c.args.far.now c.args.t next (omega (arith, c.requires.listed.1)) h
