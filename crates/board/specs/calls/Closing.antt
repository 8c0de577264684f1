-- What the words of a closed board show.
use Rattle.std.specs.Prelude.{◌≡◌, ℕ, ◌<◌, true, List, Option, None, length}
use Rattle.armus_base.specs.Plans.{Plan}
use Rattle.armus_base.specs.Runs.{Place}
use Rattle.armus_base.specs.Places.{state_at, forked_at, done_by}
use Rattle.armus_base.specs.calls.Boards.{IsLawful}
use Rattle.armus_base.specs.calls.Seats.{SeenBy, IsAsFarOn}
use Rattle.board.specs.declared.mode.Mode.{Mode}
use Rattle.board.specs.calls.Words.{IsShown}
use Rattle.board.specs.calls.Views.{avoids}

-- each task that is forked at the seen places is one of the exact ones
abbrev pub AreAllExact : Plan → SeenBy → Type 0
AreAllExact plan seen = (t : ℕ) → t < length plan.parents → forked_at plan (done_by seen.places) t ≡ true → seen.exact t ≡ true

-- the words are those of a lawful state
pub record AreLawful (plan : Plan) (mode : Mode) (words : List ℕ) : Type 0 where
  pub places : ℕ → Place
  pub lock : Option ℕ
  pub lawful : IsLawful (avoids mode) plan places lock
  pub shown : IsShown plan (state_at plan places) lock words

-- it is as far on as what a viewer has seen, and stands exactly at the seen places where each forked task is exact
pub record AreLastOf (plan : Plan) (mode : Mode) (seen : SeenBy) (words : List ℕ) : Type 0 where
  pub last : AreLawful plan mode words
  pub far : IsAsFarOn plan None last.places seen
  pub exact : AreAllExact plan seen → last.places ≡ seen.places
