use Rattle.std.proofs.lemmas.Result.{on_ok_weaker, on_err_weaker}
use Rattle.order_graph.proofs.OrderRows.{memory_put_edge, memory_put_order, memory_same}
use Rattle.order_graph.proofs.order.Order.put.Goals as goal

pub invariant_of-self : goal.invariant_of-self
invariant_of-self c = (
  memory_put_order c.self.inside.rows.items c.self.inside.positions.items c.args.a c.index_mut.result.now c.self.invariant.0
      (rw (← c.self.view_is) at c.requires.from) c.index_mut.ensures.value c.put.new.self c.args.b (rw (← c.self.view_is) at c.requires.up)
      (rw (← c.self.view_is) at c.requires.to) c.put.ensures.ascends c.put.ensures.within,
  c.self.invariant.1,
)

pub returns-clause-ok : goal.returns-clause-ok
returns-clause-ok c =
    rw (← c.self.view_is) (
    on_ok_weaker c.put.result (memory_put_edge c.self.inside.rows.items c.self.inside.positions.items c.args.a c.index_mut.result.now c.self.invariant.0 (
    rw (← c.self.view_is) at c.requires.from) c.index_mut.ensures.value c.put.new.self c.args.b (rw (← c.self.view_is) at c.requires.up)) c.put.ensures.members)

pub returns-clause-err : goal.returns-clause-err
returns-clause-err c =
    rw (← c.self.view_is) (
    on_err_weaker c.put.result (memory_same c.self.inside.rows.items c.self.inside.positions.items c.args.a c.index_mut.result.now c.self.invariant.0 (
    rw (← c.self.view_is) at c.requires.from) c.index_mut.ensures.value c.put.new.self) c.put.ensures.err)

pub returns-clause-order : goal.returns-clause-order
returns-clause-order c = (invariant_of-self c).0
