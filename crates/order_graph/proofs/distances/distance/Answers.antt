use Rattle.std.proofs.Common.{rules, sym}
use Rattle.order_graph.proofs.NearestTasks.{listed_next, near_room, none_near, some_near}
use Rattle.order_graph.proofs.TaskRows.{not_same}
use Rattle.order_graph.proofs.distances.distance.Goals as goal

pub nearest-requires-clause-listed : goal.nearest-requires-clause-listed
nearest-requires-clause-listed c next h = listed_next c.args.order.now c.requires.order c.args.goal c.args.far.now c.args.t next c.requires.ahead h

pub overflow_add-result : goal.overflow_add-result
overflow_add-result c =
    let near = near_room c.args.order.now c.requires.order c.args.goal c.args.t c.in-Some.near c.requires.goal (rw c.in-Some.is at c.in_ok-found.ensures) in
    search (rules, near)

pub returns-in-Some : goal.returns-in-Some
returns-in-Some c = some_near c.args.order.now c.requires.order c.args.goal c.args.t (not_same c.args.t c.args.goal (sym c.if-eq.ensures)) c.in-Some.near (rw c.in-Some.is at c.in_ok-found.ensures)

pub returns-in-None : goal.returns-in-None
returns-in-None c = none_near c.args.order.now c.requires.order c.args.goal c.args.t (not_same c.args.t c.args.goal (sym c.if-eq.ensures)) (rw c.in-None.is at c.in_ok-found.ensures)
