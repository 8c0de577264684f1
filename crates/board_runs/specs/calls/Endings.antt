-- What is made of the tasks of a run at its end: their places, and one viewer who takes their seats in.
use Rattle.std.specs.Prelude.{slice_get, ◌≡◌, ◌≢◌, ℕ, ◌<◌, ◌⊎◌, List, [], ◌∷◌, Some, Contains, length}
use Rattle.board.specs.calls.Seats.{Known, TakesIn}
use Rattle.pl_core.specs.declared.place.Place.{Place as KeptPlace}
use Rattle.board_runs.specs.calls.Turns.{Working, standing_of}
use Rattle.board_runs.specs.calls.TaskSeats.{own_number}

-- the viewer takes these seats in, one after the other
abbrev pub TakesAll : List Known → Known → Known → Type 0
TakesAll [] before now = now ≡ before
TakesAll (seat ∷ seats) before now = (between : Known) × TakesIn seat before between × TakesAll seats between now

-- the place of each of these tasks is noted under its number, and nothing else is another
pub record NotesPlaces (tasks : List Working) (before now : List KeptPlace) : Type 0 where
  pub count : length now ≡ length before
  pub each :
      (t : ℕ) → t < length before →
      ((task : Working) × Contains tasks task × own_number task ≡ t × slice_get now t ≡ Some (standing_of task.seat))
      ⊎ (((task : Working) → Contains tasks task → own_number task ≢ t) × slice_get now t ≡ slice_get before t)
