use Rattle.order_graph.proofs.OrderRows.{memory_fewer_order, memory_keep}
use Rattle.order_graph.proofs.order.Order.keep_only.Goals as goal

pub invariant_of-self : goal.invariant_of-self
invariant_of-self c = (
  memory_fewer_order c.self.inside.rows.items c.self.inside.positions.items c.args.t c.index_mut.result.now c.self.invariant.0
      (rw (← c.self.view_is) at c.requires.task) c.index_mut.ensures.value c.keep_common.new.self c.keep_common.ensures.ascends (λ u m. ((c.keep_common.ensures.members u).0 m).0),
  c.self.invariant.1,
)

pub returns-clause-kept : goal.returns-clause-kept
returns-clause-kept c =
    rw (← c.self.view_is) (
    memory_keep c.self.inside.rows.items c.self.inside.positions.items c.args.t c.index_mut.result.now c.self.invariant.0 (rw (← c.self.view_is) at c.requires.task)
    c.index_mut.ensures.value c.keep_common.new.self c.args.wanted.now c.keep_common.ensures.members)

pub returns-clause-order : goal.returns-clause-order
returns-clause-order c = (invariant_of-self c).0
