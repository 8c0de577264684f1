-- What is true of each viewer.
use Rattle.std.specs.Prelude.{◌≡◌, None, [], false}
use Rattle.board.specs.declared.view_seat.ViewSeat.TheInside.{Inside}
use Rattle.board.specs.calls.Seats.{IsSeat}
use Rattle.board.specs.calls.Viewing.{known_of_viewer}

-- it is of no task, and never holds the lock
pub record Views (s : Inside) : Type 0 where
  pub no_slot : s.place.me.1 ≡ []
  pub alone : s.place.me.0.own ≡ None
  pub free : s.place.me.0.holds ≡ false
  pub seat : IsSeat (known_of_viewer s)
