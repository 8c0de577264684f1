-- The forms of words: keywords, names and numbers.
use Rattle.std.specs.Prelude.{ℕ, ◌+◌, ◌-◌, ◌*◌, ◌==◌, Bool, false, not, ◌||◌, ◌&&◌, nat_le, if◌then◌else◌, List, [], ◌∷◌, length, codes, Option, Some, None}
use Rattle.std.specs.List.{find, list_all}
use Rattle.std.specs.Str.{bytes_eq}
use Rattle.pl_syntax.specs.declared.limits.TheConstants.{MAX_DIGITS, MAX_NUMBER}
use Rattle.pl_syntax.specs.declared.token.Keyword.{Keyword}
use Rattle.pl_syntax.specs.declared.token.Keyword.TheVariants.{NewTid, NewPhaser, Fork, Reg, Dereg, Adv, Await, Loop, Skip, Clock, Async, Finish, Advance, Resume, Drop}
use Rattle.pl_syntax.specs.declared.scan.Language.{Language}
use Rattle.pl_syntax.specs.declared.scan.Language.TheVariants.{Phasers, Clocks}

-- ---- bytes

-- a lower-case ASCII letter
abbrev pub is_lower : ℕ → Bool
is_lower b = nat_le 97 b && nat_le b 122

-- a capital ASCII letter
abbrev pub is_capital : ℕ → Bool
is_capital b = nat_le 65 b && nat_le b 90

-- an ASCII digit
abbrev pub is_digit : ℕ → Bool
is_digit b = nat_le 48 b && nat_le b 57

-- a letter, a digit or _: what words are made of
abbrev pub is_word_byte : ℕ → Bool
is_word_byte b = is_lower b || (is_capital b || (is_digit b || b == 95))

-- a lower-case letter, a digit or _: what a name may go on with
abbrev pub is_name_byte : ℕ → Bool
is_name_byte b = is_lower b || (is_digit b || b == 95)

-- the first byte is this one
abbrev pub begins_with : ℕ → List ℕ → Bool
begins_with b [] = false
begins_with b (x ∷ xs) = x == b

-- ---- keywords

-- how a keyword is spelled
abbrev pub spelling_of : Keyword → List ℕ
spelling_of NewTid = codes "newTid"
spelling_of NewPhaser = codes "newPhaser"
spelling_of Fork = codes "fork"
spelling_of Reg = codes "reg"
spelling_of Dereg = codes "dereg"
spelling_of Adv = codes "adv"
spelling_of Await = codes "await"
spelling_of Loop = codes "loop"
spelling_of Skip = codes "skip"
spelling_of Clock = codes "clock"
spelling_of Async = codes "async"
spelling_of Finish = codes "finish"
spelling_of Advance = codes "advance"
spelling_of Resume = codes "resume"
spelling_of Drop = codes "drop"

-- all keywords of PL
abbrev pub keywords : List Keyword
keywords = NewTid ∷ NewPhaser ∷ Fork ∷ Reg ∷ Dereg ∷ Adv ∷ Await ∷ Loop ∷ Skip ∷ []

-- all keywords of the language of clocks
abbrev pub clock_keywords : List Keyword
clock_keywords = Clock ∷ Async ∷ Finish ∷ Advance ∷ Resume ∷ Drop ∷ Loop ∷ Skip ∷ []

-- the keyword of PL that is spelled so
unfoldable pub keyword_of : List ℕ → Option Keyword
keyword_of w = find (λ k. bytes_eq w (spelling_of k)) keywords

-- the keyword of the language of clocks that is spelled so
unfoldable pub clock_keyword_of : List ℕ → Option Keyword
clock_keyword_of w = find (λ k. bytes_eq w (spelling_of k)) clock_keywords

-- the keyword of a language that is spelled so
abbrev pub keyword_in : Language → List ℕ → Option Keyword
keyword_in Phasers w = keyword_of w
keyword_in Clocks w = clock_keyword_of w

-- ---- names

-- lower-case letters, digits and _, from a letter on
abbrev pub has_name_form : List ℕ → Bool
has_name_form [] = false
has_name_form (b ∷ bs) = is_lower b && list_all is_name_byte (b ∷ bs)

-- ---- numbers

-- the value of decimal digits, after a value
abbrev pub value_from : ℕ → List ℕ → ℕ
value_from n [] = n
value_from n (d ∷ ds) = value_from (10 * n + (d - 48)) ds

-- no 0 leads, or it stands alone
abbrev pub has_no_leading_zero : List ℕ → Bool
has_no_leading_zero w = not (begins_with 48 w) || length w == 1

-- so many digits, and so great a value, as a number may have
abbrev pub is_small : List ℕ → Bool
is_small w = nat_le (length w) MAX_DIGITS && nat_le (value_from 0 w) MAX_NUMBER

-- a word that begins with a digit is a number where it has this form
abbrev pub is_number : List ℕ → Bool
is_number w = list_all is_digit w && (has_no_leading_zero w && is_small w)

-- the value of a number
abbrev pub number_of : List ℕ → Option ℕ
number_of w = if is_number w then Some (value_from 0 w) else None
