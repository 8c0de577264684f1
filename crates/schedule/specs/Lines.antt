-- The lines of a schedule: how bytes are cut into them, and what each one says.
use Rattle.std.specs.Prelude.{◌≡◌, ◌≢◌, ℕ, ◌<◌, ◌^◌, List, [], ◌∷◌, ◌++◌, codes, All}
use Rattle.std.specs.Fmt.{decimal}
use Rattle.schedule.specs.declared.lines.TheConstants.{MOST_DIGITS}
use Rattle.schedule.specs.declared.lines.Line.{Line}
use Rattle.schedule.specs.declared.lines.Line.TheVariants.{Step, Pass, Load, Unreadable}

-- the byte that ends a line
abbrev pub line_end : ℕ
line_end = 10

-- no line ends within these bytes
abbrev pub HasNoEnd : List ℕ → Type 0
HasNoEnd bytes = All (λ b. b ≢ line_end) bytes

-- the bytes begin with this line, and the rest stands behind its end
pub data IsFirstLine (bytes line rest : List ℕ) : Type 0 where
  ended : HasNoEnd line → bytes ≡ line ++ line_end ∷ rest → IsFirstLine bytes line rest
  unended : HasNoEnd line → line ≢ [] → bytes ≡ line → rest ≡ [] → IsFirstLine bytes line rest

-- the bytes are these lines, each ended by LF or by the end of the bytes; an empty rest is no line
pub data IsCut : List ℕ → List (List ℕ) → Type 0 where
  no_line : IsCut [] []
  a_line : (bytes line rest : List ℕ) (lines : List (List ℕ)) → IsFirstLine bytes line rest → IsCut rest lines → IsCut bytes (line ∷ lines)

-- the spelling of a line: `t` and a task's number of at most nine digits, without leading zeros; `pass`; or `l`
abbrev pub Spells : List ℕ → Line → Type 0
Spells bytes (Step n) = n < 10 ^ MOST_DIGITS × bytes ≡ codes "t " ++ decimal n
Spells bytes Pass = bytes ≡ codes "pass"
Spells bytes Load = bytes ≡ codes "l"
Spells bytes Unreadable = ⊥

-- what a line of bytes says: what it spells, or nothing that can be read
abbrev pub Says : List ℕ → Line → Type 0
Says bytes Unreadable = (line : Line) → Spells bytes line → ⊥
Says bytes line = Spells bytes line

-- each line of bytes says the line at its place
pub data AllSay : List (List ℕ) → List Line → Type 0 where
  none : AllSay [] []
  more : (bytes : List ℕ) (line : Line) (rest : List (List ℕ)) (lines : List Line) → Says bytes line → AllSay rest lines → AllSay (bytes ∷ rest) (line ∷ lines)

-- the bytes are these lines
pub record IsSchedule (bytes : List ℕ) (lines : List Line) : Type 0 where
  pub texts : List (List ℕ)
  pub cut : IsCut bytes texts
  pub say : AllSay texts lines
