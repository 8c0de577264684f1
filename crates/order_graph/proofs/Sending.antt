-- What is handed to a thread: an order.
use denote.Param.Send.{IsSend, sendable}
use Rattle.std.proofs.Crossing.{crosses}
use Rattle.order_graph.specs.contracts.order.Order as orders

pub order_send : IsSend orders.the_row
order_send = search (sendable, crosses) depth 30
