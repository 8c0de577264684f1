use Rattle.std.proofs.Common.{ap}
use Rattle.order_graph.specs.inside.Bits.{tasks_by_bits}
use Rattle.order_graph.proofs.RowBits.{common_members}
use Rattle.order_graph.proofs.TaskBits.{in_ascends}
use Rattle.order_graph.proofs.row.TaskSet.keep_common.Goals as goal

pub returns-clause-ascends : goal.returns-clause-ascends
returns-clause-ascends c = in_ascends c.keep_common.new.words.items

pub returns-clause-members : goal.returns-clause-members
returns-clause-members c u =
    let bits = rw c.deref.ensures.value at c.keep_common.ensures.bits in
    rw (← c.self.view_is, ← c.other.view_is)
    (common_members c.self.inside.words.items c.keep_common.new.words.items c.other.inside.words.items bits u)

pub returns-clause-same : goal.returns-clause-same
returns-clause-same c is =
    rw (← c.other.view_is) (ap tasks_by_bits (rw c.deref.ensures.value at (c.keep_common.ensures.same is)))
