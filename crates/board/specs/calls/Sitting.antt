-- What is true of each seat.
use Rattle.board.specs.declared.task_seat.TaskSeat.TheInside.{Inside}
use Rattle.board.specs.calls.Seats.{Known}

-- what a contract sees of the seat of a task
abbrev pub known_of : Inside → Known
known_of s = record { table = s.place.table_id; view = s.place.me.0 }
