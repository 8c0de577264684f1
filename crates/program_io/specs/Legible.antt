-- What is written of an output: characters that a terminal shows, tabs and ends of lines, and `?` for each other byte.
use Rattle.std.specs.Prelude.{◌≡◌, ℕ, suc, zero, ◌==◌, ◌&&◌, ◌||◌, Bool, true, false, [], ◌∷◌, Option, Some, None, ◌++◌, if◌then◌else◌, length, map, nat_lt, slice_get}
use Rattle.std.specs.Int.{is_in_range}
use Rattle.std.specs.Str.{continuation_len}
use Rattle.std.specs.Str.Lossy.{second_byte_max, second_byte_min}
use Rattle.program_io.specs.Texts.{Text}

-- a character may begin with this byte that a terminal shows, or that is a tab or the end of a line
abbrev pub may_begin : ℕ → Bool
may_begin first = first == 9 || first == 10 || is_in_range 32 126 first || is_in_range 194 244 first

-- the least byte that may stand behind this first one: as in UTF-8, without the control characters from 128 to 159
abbrev pub least_second : ℕ → ℕ
least_second first = if first == 194 then 160 else second_byte_min first

-- a byte that may stand behind this first one, if there is one
abbrev pub is_second : ℕ → Option ℕ → Bool
is_second first None = false
is_second first (Some byte) = is_in_range (least_second first) (second_byte_max first) byte

-- a byte that may stand behind the second one, if there is one
abbrev pub is_further : Option ℕ → Bool
is_further None = false
is_further (Some byte) = is_in_range 128 191 byte

-- with these bytes a character goes on that begins with this one, in UTF-8
abbrev pub is_continued : ℕ → Text → Bool
is_continued first rest =
    (nat_lt first 128 || is_second first (slice_get rest 0)) && (nat_lt first 224 || is_further (slice_get rest 1))
    && (nat_lt first 240 || is_further (slice_get rest 2))

-- with this byte, and these behind it, such a character begins
abbrev pub begins_character : ℕ → Text → Bool
begins_character first rest = may_begin first && is_continued first rest

-- the bytes with `?` for each that is of no such character, where the first so many go on one
abbrev pub legible_behind : ℕ → Text → Text
legible_behind n [] = []
legible_behind (suc n) (byte ∷ rest) = byte ∷ legible_behind n rest
legible_behind zero (byte ∷ rest) =
    if begins_character byte rest then byte ∷ legible_behind (continuation_len byte) rest else 63 ∷ legible_behind zero rest

-- what is written of a text: itself, with `?` for each byte that is of no such character
abbrev pub legible : Text → Text
legible text = legible_behind 0 text

-- the lines are what is written of such ones
abbrev pub IsWritten : (Text → Type 0) → Text → Type 0
IsWritten Tells lines = (whole : Text) × Tells whole × (lines ≡ legible whole)

-- ---- what is so

-- these bytes are one such character
abbrev pub IsCharacter : Text → Type 0
IsCharacter character = (first : ℕ) × (rest : Text) × (character ≡ first ∷ rest) × (begins_character first rest ≡ true) × (length rest ≡ continuation_len first)

-- the text consists of such characters
pub data IsLegible : Text → Type 0 where
  nothing : IsLegible []
  character : {front rest : Text} → IsCharacter front → IsLegible rest → IsLegible (front ++ rest)

-- what is written consists of such characters, whatever text is told
abbrev pub LegibleIsWritten : Type 0
LegibleIsWritten = (text : Text) → IsLegible (legible text)

-- and a text of such characters is written as it is
abbrev pub LegibleStays : Type 0
LegibleStays = (text : Text) → IsLegible text → legible text ≡ text

-- ---- the name of a file

-- the name of a file as it is told: with `?` for each byte below 32, so that it is on one line
abbrev pub told_name : Text → Text
told_name name = map (λ byte. if nat_lt byte 32 then 63 else byte) name
