use Rattle.std.proofs.Common.{◌≡◌, ◌++◌, arith, length, ◌∙◌, get_or, take, drop, ◌⊎◌}
use Rattle.std.specs.Prelude.{Contains, ◌↔◌}
use Rattle.std.proofs.lemmas.List.{get_or_default, with_items_is}
use Rattle.std.proofs.lemmas.List.Elements.{Contains-get_or}
use Rattle.armus_base.specs.declared.ids.TaskId.{TaskId}
use Rattle.order_graph.specs.calls.Orders.{IsTaskOf, OrderValue, successors_of}
use Rattle.order_graph.specs.inside.Rows.{AreSettled, order_of}
use Rattle.order_graph.proofs.OrderRows.{is_row, memory_same, on_err_holds}
use Rattle.order_graph.proofs.MendedOrders.{inverse_now, mended_edge, mended_order}
use Rattle.order_graph.proofs.order.Order.mend.Goals as goal

-- where no edge was put the order is as before
pub invariant_of-self : goal.invariant_of-self
invariant_of-self c =
    rw (
    memory_same c.self.inside.rows.items c.self.inside.positions.items c.args.a c.index_mut.result.now c.self.invariant.0
    (rw (← c.self.view_is) at c.requires.from) c.index_mut.ensures.value c.put.new.self c.in_err-put.ensures.err
    ) c.self.invariant

pub returns-in_err-put-clause-err : goal.returns-in_err-put-clause-err
returns-in_err-put-clause-err c =
    on_err_holds c.from_residual.result (
    memory_same c.self.inside.rows.items c.self.inside.positions.items c.args.a c.index_mut.result.now c.self.invariant.0
    (rw (← c.self.view_is) at c.requires.from) c.index_mut.ensures.value c.put.new.self c.in_err-put.ensures.err ∙ c.self.view_is)

pub settle-requires-clause-tasks : goal.settle-requires-clause-tasks
settle-requires-clause-tasks c k d lt =
    let mended = rw (← c.self.view_is) at c.requires.mended in
    rw c.deref_mut.ensures.value ((mended.exact (get_or c.args.ts.now k d)).0 (Contains-get_or c.args.ts.now k d lt)).0

pub settle-requires-clause-two : goal.settle-requires-clause-two
settle-requires-clause-two c i j d ij lt = (c.requires.mended.precede i j d ij lt).two

module _ (c : goal.After-self-3-1) where
  before : OrderValue
  before = order_of c.self.inside.rows.items c.self.inside.positions.items

  from : IsTaskOf before c.args.a
  unfolding before
  from = rw (← c.self.view_is) at c.requires.from

  to : IsTaskOf before c.args.b
  unfolding before
  to = rw (← c.self.view_is) at c.requires.to

  low : c.index-low.result.now ≡ get_or c.self.inside.positions.items c.args.b.0 0
  unfolding before
  low = c.index-low.ensures ∙ get_or_default c.self.inside.positions.items c.args.b.0 c.index-low.result.now 0 to

  settled : AreSettled (get_or c.self.inside.positions.items c.args.b.0 0) c.args.ts.now c.self.inside.positions.items c.settle.new.positions c.self.inside.at.items c.settle.new.at
  settled = rw (low, c.deref_mut.ensures.value, c.deref_mut-2.ensures.value) at c.settle.ensures

  positions : take c.self.inside.positions.len (c.settle.new.positions ++ drop (length c.settle.new.positions) c.self.inside.positions.items) ≡ c.settle.new.positions
  positions = with_items_is c.self.inside.positions c.settle.new.positions (omega (arith, c.settle.ensures.sized, c.deref_mut.ensures.len))

  tasks : take c.self.inside.at.len (c.settle.new.at ++ drop (length c.settle.new.at) c.self.inside.at.items) ≡ c.settle.new.at
  tasks = with_items_is c.self.inside.at c.settle.new.at (omega (arith, c.settle.ensures.at_sized, c.deref_mut-2.ensures.len))

  members : (u : TaskId) → Contains c.put.new.self u ↔ (Contains (successors_of before c.args.a) u ⊎ (u ≡ c.args.b))
  unfolding before
  members u =
      rw (is_row c.self.inside.rows.items c.self.inside.positions.items c.args.a c.index_mut.result.now c.self.invariant.0 from c.index_mut.ensures.value)
      (c.in_ok-put.ensures.members u)

pub invariant_of-self-2 : goal.invariant_of-self-2
unfolding before
invariant_of-self-2 c =
    let none = rw (← c.self.view_is) at c.requires.no_walk in
    let down = rw (← c.self.view_is) at c.requires.down in
    let mended = rw (← c.self.view_is) at c.requires.mended in
    rw (positions c, tasks c) (
      mended_order (before c) c.self.invariant.0 c.self.inside.at.items c.self.invariant.1 c.args.a c.args.b (from c) (to c) down none c.args.ts.now mended
          c.settle.new.positions c.settle.new.at (settled c) c.put.new.self c.put.ensures.ascends (members c),
      inverse_now (before c) c.self.invariant.0 c.self.inside.at.items c.self.invariant.1 c.args.a c.args.b (from c) (to c) down none c.args.ts.now mended
          c.settle.new.positions c.settle.new.at (settled c),
    )

pub returns-clause-ok : goal.returns-clause-ok
unfolding before
returns-clause-ok c =
    let none = rw (← c.self.view_is) at c.requires.no_walk in
    let down = rw (← c.self.view_is) at c.requires.down in
    let mended = rw (← c.self.view_is) at c.requires.mended in
    rw (← c.self.view_is, positions c) (
    mended_edge (before c) c.self.invariant.0 c.self.inside.at.items c.self.invariant.1 c.args.a c.args.b (from c) (to c) down none c.args.ts.now mended
    c.settle.new.positions c.settle.new.at (settled c) c.put.new.self c.put.ensures.ascends (members c))

pub returns-in_err-put-clause-order : goal.returns-in_err-put-clause-order
returns-in_err-put-clause-order c = (invariant_of-self c).0

pub returns-clause-order : goal.returns-clause-order
returns-clause-order c = (invariant_of-self-2 c).0
