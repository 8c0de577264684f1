-- Words of a text, as they stand in sentences.
use Rattle.std.specs.Prelude.{ℕ, ◌++◌, if◌then◌else◌, List, [], ◌∷◌, length, take, codes, nat_le}
use Rattle.pl_syntax.specs.Words.{is_word_byte}
use Rattle.pl_syntax.specs.Tokens.{word_of}

-- how many bytes of a word stand in a sentence at most
abbrev pub max_shown_bytes : ℕ
max_shown_bytes = 40

-- a word of more bytes is written as its first ones and ..
abbrev pub shown_word : List ℕ → List ℕ
shown_word w = if nat_le (length w) max_shown_bytes then w else take max_shown_bytes w ++ codes ".."

-- a word in a sentence: 'adv'
abbrev pub quoted : List ℕ → List ℕ
quoted w = codes "'" ++ shown_word w ++ codes "'"

-- the word at the front of a text, or its first byte where that is none of a word
abbrev pub spelled : List ℕ → List ℕ
spelled [] = []
spelled (b ∷ bs) = if is_word_byte b then word_of (b ∷ bs) else b ∷ []
