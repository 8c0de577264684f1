use Rattle.std.proofs.Common.{sym}
use Rattle.order_graph.proofs.NearestWalks.{way_begins, way_done, way_more}
use Rattle.order_graph.proofs.TaskRows.{same_if}
use Rattle.order_graph.proofs.walk.nearest_walk.Goals as goal

pub walk-init : goal.walk-init
walk-init c =
    record { listed = c.requires.listed; reaches = c.requires.reaches; way = rw c.new-list.ensures.items (way_begins c.args.order.now c.args.start c.args.goal) }

pub walk-preserved : goal.walk-preserved
walk-preserved c =
    let near = c.in_ok-t.ensures.nearest in
    record {
      listed = c.in_ok-t.ensures.goes_on.listed;
      reaches = (near.left, near.walk);
      way = rw c.in_ok-push.ensures.items (way_more c.args.order.now c.args.start c.args.goal c.walk.list.items c.walk.t c.walk.invariant.way c.in_ok-t.t near);
    }

pub returns : goal.returns
returns c =
    rw c.in_ok-push-2.ensures.items (
    way_done c.args.order.now c.args.start c.args.goal c.walk.list.items c.walk.t c.walk.invariant.way (same_if c.walk.t c.args.goal (sym c.walk-test.ensures)))
