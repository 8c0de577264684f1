use Rattle.order_graph.proofs.NearestTasks.{is_nearer}
use Rattle.order_graph.proofs.distances.nearer.Goals as goal

pub returns-else-near-left : goal.returns-else-near-left
returns-else-near-left c o g ts best below found =
    is_nearer o g ts c.in-Some-Some.near c.args.next c.in-Some-Some.left (rw c.in-Some-Some.is-0 at best) (rw c.in-Some-Some.is-1 at found) c.if-near-left.false
