-- What threads share, and what is handed to one: a board, and the seats of tasks.
use denote.Param.Send.{IsSend, IsSync, sendable}
use Rattle.std.proofs.Crossing.{crosses}
use Rattle.std.proofs.alloc.Global.TheSendSync as heap
use Rattle.atomic_table.proofs.shared.Seat.TheSendSync.{the_send as place_send}
use Rattle.atomic_table.proofs.shared.Shared.TheSendSync.{the_sync as shared_sync}
use Rattle.atomic_table.proofs.send_lease.SendLease.TheSendSync.{the_sync as lease_sync}
use Rattle.board.specs.contracts.board.Board as boards
use Rattle.board.specs.contracts.task_seat.TaskSeat as task_seats
use Rattle.board.specs.contracts.view_seat.ViewSeat as view_seats

-- threads may share a board
pub board_sync : IsSync boards.the_row
board_sync = search (sendable, crosses, shared_sync, lease_sync, heap.the_send, heap.the_sync) depth 30

-- the seat of a task may be handed to a thread
pub task_seat_send : IsSend task_seats.the_row
task_seat_send = search (sendable, place_send) depth 30

-- and so may the seat of a viewer
pub view_seat_send : IsSend view_seats.the_row
view_seat_send = search (sendable, place_send) depth 30
