-- What may help with a syntax fault. A text is given from the place of the fault on.
use Rattle.std.specs.Prelude.{ℕ, ◌==◌, Bool, true, false, ◌&&◌, ◌||◌, if◌then◌else◌, List, [], ◌∷◌, drop, codes, nat_le, Option, Some, None}
use Rattle.std.specs.List.{list_any}
use Rattle.std.specs.Str.{bytes_eq}
use Rattle.pl_syntax.specs.Words.{begins_with, is_capital, is_digit, is_lower}
use Rattle.pl_syntax.specs.Tokens.{kind_no_token, kind_cannot_stand}
use Rattle.pl_syntax.specs.declared.token.Sign.TheVariants.{CloseParen, Equals, Semicolon}
use Rattle.explain_syntax.specs.declared.stand.Behind.{Behind}
use Rattle.explain_syntax.specs.declared.stand.Behind.TheVariants.{ClockWord, Condition, Header, Repetition}
use Rattle.explain_syntax.specs.declared.stand.GrammarStand.{GrammarStand}
use Rattle.explain_syntax.specs.declared.wanted.WantedTokens.{WantedTokens}
use Rattle.explain_syntax.specs.declared.wanted.WantedTokens.TheVariants as w
use Rattle.explain_syntax.specs.QuotedWords.{spelled}

-- `/` with `*` behind it
abbrev pub begins_comment : List ℕ → Bool
begins_comment rest = begins_with 47 rest && begins_with 42 (drop 1 rest)

-- `+` or `-`
abbrev pub begins_offset : List ℕ → Bool
begins_offset rest = begins_with 43 rest || begins_with 45 rest

-- the bytes of a byte order mark
abbrev pub begins_mark : List ℕ → Bool
begins_mark rest = begins_with 239 rest && (begins_with 187 (drop 1 rest) && begins_with 191 (drop 2 rest))

-- `#`, with which comments of other languages begin
abbrev pub begins_hash : List ℕ → Bool
begins_hash rest = begins_with 35 rest

-- `.`, with which other languages call something on a name
abbrev pub begins_call : List ℕ → Bool
begins_call rest = begins_with 46 rest

-- a byte above 127
abbrev pub begins_beyond : List ℕ → Bool
begins_beyond [] = false
begins_beyond (b ∷ bs) = nat_le 128 b

-- a word with a capital letter
abbrev pub has_capital : List ℕ → Bool
has_capital word = list_any is_capital word

-- `=` alone is wanted
abbrev pub wants_equals : WantedTokens → Bool
wants_equals (w.Sign Equals) = true
wants_equals wanted = false

-- behind a word of the language of clocks
abbrev pub is_clock_word : Behind → Bool
is_clock_word ClockWord = true
is_clock_word behind = false

-- behind `pl`
abbrev pub is_header : Behind → Bool
is_header Header = true
is_header behind = false

-- behind a word with which other languages begin a condition
abbrev pub is_condition : Behind → Bool
is_condition Condition = true
is_condition behind = false

-- behind one with which they begin a loop
abbrev pub is_repetition : Behind → Bool
is_repetition Repetition = true
is_repetition behind = false

-- a statement is wanted
abbrev pub wants_statement : WantedTokens → Bool
wants_statement w.StatementOrBrace = true
wants_statement w.StatementOrEnd = true
wants_statement wanted = false

-- `)` alone is wanted
abbrev pub wants_close : WantedTokens → Bool
wants_close (w.Sign CloseParen) = true
wants_close wanted = false

-- `;` is wanted
abbrev pub wants_semicolon : WantedTokens → Bool
wants_semicolon (w.Sign Semicolon) = true
wants_semicolon wanted = false

-- a number is wanted
abbrev pub wants_number : WantedTokens → Bool
wants_number w.Number = true
wants_number wanted = false

-- `newTid` or `newPhaser` is wanted
abbrev pub wants_maker : WantedTokens → Bool
wants_maker w.Maker = true
wants_maker wanted = false

-- a digit
abbrev pub begins_number : List ℕ → Bool
begins_number [] = false
begins_number (b ∷ bs) = is_digit b

-- a word that begins with a letter
abbrev pub begins_word : List ℕ → Bool
begins_word [] = false
begins_word (b ∷ bs) = is_lower b

-- the hints where no token begins, in their order, each with the test whether it fits; so many bytes stand before
abbrev pub token_hints : ℕ → List ℕ → List (Bool × List ℕ)
token_hints at rest =
    (begins_comment rest || begins_hash rest, codes "a comment begins with // and ends with its line")
    ∷ (begins_call rest, codes "a phaser stands in parentheses, as in await(b)")
    ∷ (begins_offset rest, codes "+ and - need pl 2; at the beginning of the text")
    ∷ (at == 0 && begins_mark rest, codes "the text begins with a byte order mark")
    ∷ (begins_beyond rest, codes "outside of comments all bytes are ASCII")
    ∷ (has_capital (spelled rest), codes "only newTid and newPhaser have capitals")
    ∷ []

-- the hints where `=` is wanted behind a name
abbrev pub name_hints : List ℕ → Behind → List (Bool × List ℕ)
name_hints rest behind =
    (begins_offset rest, codes "only await takes + or -, as in await(x + 1)")
    ∷ (is_clock_word behind, codes "this may be a text of clocks: armus_explain clock reads those")
    ∷ (is_header behind, codes "pl 2; stands at the beginning of the text only")
    ∷ (is_condition behind, codes "there are no conditions: a kernel has what is done in one case")
    ∷ (is_repetition behind, codes "a loop is loop 3 { .. }, with the number of its turns")
    ∷ (true, codes "a statement is x = newTid(), x = newPhaser(), fork, reg, dereg, adv, await, loop or skip")
    ∷ []

-- the hints where `newTid`, `newPhaser` or a number is wanted
abbrev pub number_hints : List ℕ → WantedTokens → List (Bool × List ℕ)
number_hints rest wanted =
    (wants_maker wanted && bytes_eq (spelled rest) (codes "new"), codes "newTid and newPhaser are one word")
    ∷ (wants_maker wanted && begins_number rest, codes "a name stands for a task or a phaser, and for no number")
    ∷ (wants_number wanted && begins_word rest, codes "a name stands for a task or a phaser, and for no number")
    ∷ (wants_number wanted && begins_with 40 rest, codes "a loop is loop 3 { .. }, with the number of its turns")
    ∷ []

-- the hints where something else than `=` is wanted
abbrev pub stand_hints : List ℕ → WantedTokens → List (Bool × List ℕ)
stand_hints rest wanted =
    (begins_offset rest, codes "only await takes + or -, as in await(x + 1)")
    ∷ (wants_close wanted && begins_number rest, codes "the parentheses of newTid() and newPhaser() are empty: reg makes a task a member")
    ∷ (wants_close wanted && begins_with 44 rest, codes "each further task or phaser has a statement of its own")
    ∷ (wants_statement wanted && begins_with 59 rest, codes "no ; stands behind a } or another ;")
    ∷ (wants_semicolon wanted, codes "a ; ends the statement before")
    ∷ number_hints rest wanted

-- the hints where a token cannot stand
abbrev pub wanted_hints : List ℕ → GrammarStand → List (Bool × List ℕ)
wanted_hints rest stand = if wants_equals stand.wanted then name_hints rest stand.behind else stand_hints rest stand.wanted

-- the hints for a fault of this kind, behind so many bytes, where this is left of the text and the grammar says this of the place
abbrev pub hints : ℕ → ℕ → List ℕ → GrammarStand → List (Bool × List ℕ)
hints kind at rest stand =
    if kind == kind_no_token then token_hints at rest else (if kind == kind_cannot_stand then wanted_hints rest stand else [])

-- the first that fits
abbrev pub first_fit : List (Bool × List ℕ) → Option (List ℕ)
first_fit [] = None
first_fit (row ∷ rows) = if row.0 then Some row.1 else first_fit rows
