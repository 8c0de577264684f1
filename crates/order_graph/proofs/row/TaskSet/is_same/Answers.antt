use Rattle.order_graph.proofs.TaskBits.{in_same}
use Rattle.order_graph.proofs.row.TaskSet.is_same.Goals as goal

pub returns : goal.returns
returns c same =
    rw (← c.self.view_is, ← c.other.view_is)
    (in_same c.self.inside.words.items c.other.inside.words.items (rw (c.deref.ensures.value, c.deref-2.ensures.value) at (c.is_same.ensures same)))
