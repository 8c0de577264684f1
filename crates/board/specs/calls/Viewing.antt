-- What is true of each viewer's seat.
use Rattle.board.specs.declared.view_seat.ViewSeat.TheInside.{Inside}
use Rattle.board.specs.calls.Seats.{Known}

-- what a contract sees of a viewer's seat
abbrev pub known_of_viewer : Inside → Known
known_of_viewer s = record { table = s.place.table_id; view = s.place.me.0 }
