use Rattle.order_graph.proofs.OrderRows.{memory_clear, memory_fewer_order}
use Rattle.order_graph.proofs.order.Order.clear.Goals as goal

pub invariant_of-self : goal.invariant_of-self
invariant_of-self c = (
  memory_fewer_order c.self.inside.rows.items c.self.inside.positions.items c.args.a c.index_mut.result.now c.self.invariant.0
      (rw (← c.self.view_is) at c.requires.from) c.index_mut.ensures.value c.take_out.new.self c.take_out.ensures.ascends (λ u m. ((c.take_out.ensures.members u).0 m).0),
  c.self.invariant.1,
)

pub returns-clause-cleared : goal.returns-clause-cleared
returns-clause-cleared c =
    rw (← c.self.view_is) (
    memory_clear c.self.inside.rows.items c.self.inside.positions.items c.args.a c.index_mut.result.now c.self.invariant.0 (rw (← c.self.view_is) at c.requires.from)
    c.index_mut.ensures.value c.take_out.new.self c.args.b c.take_out.ensures.members)

pub returns-clause-order : goal.returns-clause-order
returns-clause-order c = (invariant_of-self c).0
