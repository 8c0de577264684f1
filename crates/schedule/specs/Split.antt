-- How the input of a replay is cut into its text and its schedule.
use Rattle.std.specs.Prelude.{◌≡◌, ◌≢◌, ℕ, List, [], ◌++◌, codes}
use Rattle.schedule.specs.Lines.{IsFirstLine}

-- the line that stands between text and schedule
abbrev pub mark : List ℕ
mark = codes "%%"

-- the text is what stands before the first line that is the mark, and the schedule what stands behind that line; without a mark all is text
pub data IsSplit : List ℕ → List ℕ → List ℕ → Type 0 where
  no_text : IsSplit [] [] []
  at_mark : (input schedule : List ℕ) → IsFirstLine input mark schedule → IsSplit input [] schedule
  more_text :
      (input line rest front text schedule : List ℕ) → IsFirstLine input line rest → line ≢ mark → input ≡ front ++ rest →
      IsSplit rest text schedule → IsSplit input (front ++ text) schedule
