-- What a collect finds by a seat that knows all tasks exactly, as one that has taken in every seat.
use Rattle.std.specs.Prelude.{◌≡◌, ℕ, ◌↔◌, List, Option}
use Rattle.armus_base.specs.declared.status.Status.{Status}
use Rattle.armus_base.specs.States.{State}
use Rattle.armus_base.specs.Places.{state_at}
use Rattle.armus_base.specs.calls.Boards.{IsLawful}
use Rattle.armus_base.specs.Deadlocks.{IsDeadIn}
use Rattle.armus_base.specs.Finals.{is_awaited, statuses_on}
use Rattle.board.specs.calls.Views.{avoids, seen}
use Rattle.board.specs.calls.Closing.{AreAllExact}
use Rattle.board.specs.calls.Seats.{Known}
use Rattle.phase_scan.specs.calls.Collected.{IsKnownDeadBy}

-- the state at the places that the seat has seen
abbrev pub seen_state : Known → State
seen_state seat = state_at seat.view.plan (seen seat.view).places

-- each task that is forked at the places that the seat has seen is one of its exact ones
abbrev pub KnowsAll : Known → Type 0
KnowsAll seat = AreAllExact seat.view.plan (seen seat.view)

-- the seen places are lawful; the list has the statuses of the state at them, with phases on the awaited phasers; and just those tasks are known to be
-- dead that are dead in it
pub record TellsState (list : List Status) (before : Known) : Type 0 where
  pub lawful : (lock : Option ℕ) × IsLawful (avoids before.view.mode) before.view.plan (seen before.view).places lock
  pub statuses : list ≡ statuses_on before.view.plan (seen_state before) (is_awaited before.view.plan (seen_state before))
  pub dead : (t : ℕ) → IsKnownDeadBy before t ↔ IsDeadIn (seen_state before) t
