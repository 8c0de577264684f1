-- What was found of an edge that goes down.
use Rattle.armus_base.specs.declared.ids.TaskId.{TaskId}
use Rattle.order_graph.specs.calls.Adding.{IsNearestWalk}
use Rattle.order_graph.specs.calls.Orders.{OrderValue}
use Rattle.order_graph.specs.declared.mending.FoundBelow.{FoundBelow}
use Rattle.order_graph.specs.declared.mending.FoundBelow.TheVariants.{Walk, Mended}
use Rattle.order_graph.specs.inside.Distances.{NeverReaches}
use Rattle.order_graph.specs.inside.Mending.{IsMended}

-- the walk from b to a, or, where there is none, the tasks of the stretch put in order
abbrev pub TellsFound : OrderValue → TaskId → TaskId → FoundBelow → Type 0
TellsFound o a b (Walk list) = IsNearestWalk o b a list.items
TellsFound o a b (Mended ts) = NeverReaches o a b × IsMended o a b ts.items
