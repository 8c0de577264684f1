-- Where the statements of a clock text begin: an offset is a number of bytes before. Each statement begins with a keyword, and no keyword stands elsewhere.
use Rattle.std.specs.Prelude.{ℕ, List, [], ◌∷◌, Ok, Err}
use Rattle.clock_syntax.specs.Trees.{ClockTree}
use Rattle.clock_syntax.specs.Grammar.{clock_scan, clock_sentence}
use Rattle.pl_syntax.specs.declared.scan.Scan.{Scan}
use Rattle.pl_syntax.specs.Tokens.{Front, Token, front, place, word}

-- what is left behind the next token
abbrev pub left_behind : Front → List ℕ
left_behind (Ok (token, rest)) = rest
left_behind (Err fault) = []

-- these offsets, with this one before them where the token is a keyword
abbrev pub with_keyword : Token → ℕ → List ℕ → List ℕ
with_keyword (word k) offset offsets = offset ∷ offsets
with_keyword token offset offsets = offsets

-- the offsets of the keywords among these tokens, which are the next ones of a text of which this is left
abbrev pub keyword_offsets : Scan → List Token → List ℕ → List ℕ
keyword_offsets scan [] text = []
keyword_offsets scan (t ∷ ts) text = with_keyword t (place scan text) (keyword_offsets scan ts (left_behind (front scan text)))

-- the offsets of the statements of the text of this program, in the order of their numbers
abbrev pub clock_offsets : List ℕ → ClockTree → List ℕ
clock_offsets text program = keyword_offsets (clock_scan text) (clock_sentence program) text
