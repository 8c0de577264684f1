-- In which language a text is, where a text of either is read.
use Rattle.std.specs.Prelude.{◌-◌, Bool, true, false, not, ◌&&◌, ◌||◌, Option, Some, None, Ok, codes, drop, length}
use Rattle.std.specs.Str.{bytes_eq}
use Rattle.pl_syntax.specs.declared.scan.Scan.{Scan}
use Rattle.pl_syntax.specs.declared.token.Keyword.{Keyword}
use Rattle.pl_syntax.specs.declared.token.Keyword.TheVariants.{Clock, Async, Finish, Advance, Resume, Drop}
use Rattle.pl_syntax.specs.declared.token.Sign.TheVariants.{Equals}
use Rattle.pl_syntax.specs.Tokens.{Front, front, sign, word}
use Rattle.clock_syntax.specs.Grammar.{clock_scan}
use Rattle.program_io.specs.Texts.{Text}

-- the word is one with which the statements of clocks begin that PL has not
abbrev pub is_word_of_clocks : Keyword → Bool
is_word_of_clocks Clock = true
is_word_of_clocks Async = true
is_word_of_clocks Finish = true
is_word_of_clocks Advance = true
is_word_of_clocks Resume = true
is_word_of_clocks Drop = true
is_word_of_clocks keyword = false

-- this is the token =, with what is left behind it
abbrev pub is_equals : Front → Bool
is_equals (Ok (sign Equals, rest)) = true
is_equals found = false

-- this is such a word, and no = follows it, as it does behind a name of PL that is spelled so
abbrev pub opens_clocks : Scan → Front → Bool
opens_clocks scan (Ok (word keyword, rest)) = is_word_of_clocks keyword && not (is_equals (front scan rest))
opens_clocks scan found = false

-- the text begins with a statement of clocks
abbrev pub begins_with_clocks : Text → Bool
begins_with_clocks text = opens_clocks (clock_scan text) (front (clock_scan text) text)

-- the name of a file ends with .clock
abbrev pub is_clock_name : Option Text → Bool
is_clock_name None = false
is_clock_name (Some name) = bytes_eq (drop (length name - 6) name) (codes ".clock")

-- the text, of the file with this name or of none, is read as one of clocks: it begins as one, or its file is named as one
abbrev pub is_of_clocks : Option Text → Text → Bool
is_of_clocks file text = begins_with_clocks text || is_clock_name file
