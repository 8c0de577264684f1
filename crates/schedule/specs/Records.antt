-- Records: the text of a run and the journal of its steps, as the input of a replay.
use Rattle.std.specs.Prelude.{◌≡◌, ◌⊎◌, ℕ, List, [], ◌∷◌, ◌++◌, codes, decimal, flat_map}
use Rattle.armus_base.specs.declared.ids.TaskId.{TaskId}
use Rattle.schedule.specs.Lines.{line_end}
use Rattle.schedule.specs.Split.{mark}

-- ---- the bytes

-- each line of the bytes is ended by an LF
abbrev pub IsEnded : List ℕ → Type 0
IsEnded bytes = (bytes ≡ []) ⊎ ((front : List ℕ) × (bytes ≡ front ++ line_end ∷ []))

-- the text, with an LF behind it where its last line is not ended by one
abbrev pub IsClosedText : List ℕ → List ℕ → Type 0
IsClosedText text closed = ((closed ≡ text) × IsEnded text) ⊎ ((closed ≡ text ++ line_end ∷ []) × (IsEnded text → ⊥))

-- the line of a step: t 3
abbrev pub step_line : TaskId → List ℕ
step_line t = (codes "t " ++ decimal t.0) ++ line_end ∷ []

-- the lines of the steps of a journal, in order
abbrev pub step_lines : List TaskId → List ℕ
step_lines journal = flat_map step_line journal

-- a closed text and a journal: the text, the line that is the mark, and a line for each step
abbrev pub recorded : List ℕ → List TaskId → List ℕ
recorded closed journal = closed ++ (mark ++ line_end ∷ []) ++ step_lines journal

-- the bytes record this text with this journal
pub record IsRecord (text : List ℕ) (journal : List TaskId) (bytes : List ℕ) : Type 0 where
  pub closed : List ℕ
  pub closed_is : IsClosedText text closed
  pub bytes_are : bytes ≡ recorded closed journal
