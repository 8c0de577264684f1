-- What is wrong at the place of a syntax fault. A text is given from that place on.
use Rattle.std.specs.Prelude.{ℕ, ◌==◌, ◌&&◌, if◌then◌else◌, List, [], ◌∷◌, ◌++◌, length, codes, decimal, nat_le}
use Rattle.pl_syntax.specs.Words.{is_word_byte}
use Rattle.pl_syntax.specs.Tokens.{kind_no_token, kind_cannot_stand, kind_no_number, kind_too_deep}
use Rattle.explain_syntax.specs.declared.wanted.WantedTokens.{WantedTokens}
use Rattle.explain_syntax.specs.QuotedWords.{quoted, spelled}
use Rattle.explain_syntax.specs.Wanted.{wanted_words}

-- kind 1, a byte: '%', or byte 195
abbrev pub byte_words : ℕ → List ℕ
byte_words b = if nat_le 33 b && nat_le b 126 then quoted (b ∷ []) else codes "byte " ++ decimal b

-- kind 1: a byte, or a word
abbrev pub no_token_words : List ℕ → List ℕ
no_token_words [] = []
no_token_words (b ∷ bs) =
    if is_word_byte b
    then quoted (spelled (b ∷ bs)) ++ codes " is no name: a name has lower-case letters, digits and _, and begins with a letter"
    else byte_words b ++ codes " begins no token"

-- kind 2: the token, or the end of the text
abbrev pub found_words : List ℕ → List ℕ
found_words [] = codes "the end of the text"
found_words (b ∷ bs) = quoted (spelled (b ∷ bs))

-- what is wrong, by the kind of the fault
abbrev pub syntax_sentence : ℕ → List ℕ → WantedTokens → List ℕ
syntax_sentence kind rest wanted =
    if kind == kind_no_token then no_token_words rest
    else (if kind == kind_cannot_stand then wanted_words wanted ++ codes " is wanted here, not " ++ found_words rest
    else (if kind == kind_no_number then quoted (spelled rest) ++ codes " is no number: a number is 0 to 65535, without leading zeros"
    else (if kind == kind_too_deep then codes "this brace is the 65th that is open: at most 64 may be"
    else quoted (spelled rest) ++ codes " has " ++ decimal (length (spelled rest)) ++ codes " bytes: a name has at most 32")))
