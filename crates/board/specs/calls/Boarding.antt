-- What is true of each board.
use Rattle.board.specs.declared.board.Board.TheInside.{Inside}
use Rattle.board.specs.calls.Seats.{Frame}

-- what a contract sees of a board
abbrev pub frame_of : Inside → Frame
frame_of b = record { table = b.cells.shared.table_id; plan = b.cells.shared.key.plan.value; mode = b.cells.shared.key.mode }
