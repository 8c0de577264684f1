-- What is handed to a thread: cells.
use denote.Param.Send.{IsSend, sendable}
use Rattle.std.proofs.Crossing.{crosses}
use Rattle.phase_scan.specs.contracts.cells.Cells as cells

pub cells_send : IsSend cells.the_row
cells_send = search (sendable, crosses) depth 30
