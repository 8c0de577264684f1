-- What is true of each seat.
use Rattle.std.specs.Prelude.{◌≡◌, ℕ, Option, Some, None, []}
use Rattle.armus_base.specs.declared.event.Event.{Event}
use Rattle.board.specs.declared.task_seat.TaskSeat.TheInside.{Inside}
use Rattle.board.specs.calls.Views.{seen}
use Rattle.board.specs.calls.Seats.{Known, IsSeat, event_of}
use Rattle.board.specs.calls.Sitting.{known_of}

-- a seat of task t with so many tasks scanned, whose task has published this event
pub record IsSitting (t scanned : ℕ) (awaited : Option Event) (k : Known) : Type 0 where
  pub task : k.view.own ≡ Some t
  pub seat : IsSeat k
  pub scanned_is : scanned ≡ (seen k.view).scanned
  pub event : awaited ≡ event_of k
  pub idle : event_of k ≡ None → scanned ≡ 0

-- its fields tell what its view says
pub record Sits (s : Inside) : Type 0 where
  pub no_slot : s.place.me.1 ≡ []
  pub sitting : IsSitting s.task.0 s.scanned s.awaited (known_of s)
