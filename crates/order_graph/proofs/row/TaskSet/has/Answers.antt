use Rattle.order_graph.proofs.RowBits.{has_task}
use Rattle.order_graph.proofs.row.TaskSet.has.Goals as goal

pub returns : goal.returns
returns c = rw (← c.self.view_is) (has_task c.self.inside.words.items c.args.t c.is_set.result (rw c.deref.ensures.value at c.is_set.ensures))
