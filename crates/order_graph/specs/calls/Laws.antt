-- Laws of kept orders.
use Rattle.std.specs.Prelude.{◌≡◌, List}
use Rattle.armus_base.specs.declared.ids.TaskId.{TaskId}
use Rattle.order_graph.specs.calls.Adding.{IsNearestWalk}
use Rattle.order_graph.specs.calls.Orders.{OrderValue, IsOrder}

-- between two tasks of an order there is one walk at most by nearest successors
abbrev pub OneNearestWalk : Type 0
OneNearestWalk =
    (o : OrderValue) (start goal : TaskId) (list other : List TaskId) → IsOrder o → IsNearestWalk o start goal list → IsNearestWalk o start goal other → list ≡ other
