-- From bytes to tokens.
-- A text is passed on as what is left of it, beside how it is read: a place is the number of all bytes less what is left there.
use Rattle.std.specs.Prelude.{◌≡◌, ℕ, ◌-◌, ◌==◌, Bool, ◌&&◌, ◌||◌, if◌then◌else◌, List, [], ◌∷◌, length, Option, Some, None, Result, Ok, Err, take, drop, nat_le}
use Rattle.std.specs.List.{prefix_len, list_any}
use Rattle.pl_syntax.specs.declared.limits.TheConstants.{MAX_NAME_BYTES}
use Rattle.pl_syntax.specs.declared.fault.SyntaxFault.{SyntaxFault}
use Rattle.pl_syntax.specs.declared.scan.Language.{Language}
use Rattle.pl_syntax.specs.declared.scan.Scan.{Scan}
use Rattle.pl_syntax.specs.declared.token.Keyword.{Keyword}
use Rattle.pl_syntax.specs.declared.token.Sign.{Sign}
use Rattle.pl_syntax.specs.declared.token.Sign.TheVariants.{Equals, OpenParen, CloseParen, Comma, Semicolon, OpenBrace, CloseBrace, Plus, Minus}
use Rattle.pl_syntax.specs.Words.{is_word_byte, is_digit, keyword_in, has_name_form, number_of, begins_with}

-- a token; the end of the text is the last one
pub data Token : Type 0 where
  the_end : Token
  sign : Sign → Token
  word : Keyword → Token
  name : List ℕ → Token
  number : ℕ → Token

-- ---- the kinds of faults

-- a byte that begins no token, or a word with a capital letter or a first `_` that is no keyword
abbrev pub kind_no_token : ℕ
kind_no_token = 1

-- a token that cannot stand where it stands
abbrev pub kind_cannot_stand : ℕ
kind_cannot_stand = 2

-- a word that begins with a digit and is no number
abbrev pub kind_no_number : ℕ
kind_no_number = 3

-- a `{` that would be one open brace too many
abbrev pub kind_too_deep : ℕ
kind_too_deep = 4

-- a name with too many bytes
abbrev pub kind_too_long : ℕ
kind_too_long = 5

-- ---- blanks and comments

-- a space, a tab, a carriage return or a line feed
abbrev pub is_blank : ℕ → Bool
is_blank b = b == 32 || (b == 9 || (b == 13 || b == 10))

-- What follows the blanks and comments at the front. A comment is `//` and what follows up to the next line feed, or to the end.
abbrev mutual
  pub after_gap : List ℕ → List ℕ
  after_gap [] = []
  after_gap (b ∷ bs) = if is_blank b then after_gap bs else (if b == 47 && begins_with 47 bs then after_comment bs else b ∷ bs)

  pub after_comment : List ℕ → List ℕ
  after_comment [] = []
  after_comment (b ∷ bs) = if b == 10 then after_gap bs else after_comment bs

-- ---- one token

-- a sign of PL 2, where those are signs
abbrev pub sign_if : Bool → Sign → Option Sign
sign_if offsets s = if offsets then Some s else None

-- the sign that is this byte, where + and - are signs or not
abbrev pub sign_of : Bool → ℕ → Option Sign
sign_of offsets b =
    if b == 61 then Some Equals else (if b == 40 then Some OpenParen else (if b == 41 then Some CloseParen
    else (if b == 44 then Some Comma else (if b == 59 then Some Semicolon
    else (if b == 123 then Some OpenBrace else (if b == 125 then Some CloseBrace
    else (if b == 43 then sign_if offsets Plus else (if b == 45 then sign_if offsets Minus else None))))))))

-- a sign, or the kind of the fault of a byte that is none
abbrev pub sign_token : Option Sign → Result Token ℕ
sign_token None = Err kind_no_token
sign_token (Some s) = Ok (sign s)

-- a word that is no number and no keyword: a name, or the kind of its fault
abbrev pub name_token : List ℕ → Result Token ℕ
name_token w = if has_name_form w then (if nat_le (length w) MAX_NAME_BYTES then Ok (name w) else Err kind_too_long) else Err kind_no_token

-- a word that begins with no digit: a keyword where it is one
abbrev pub letters_token : List ℕ → Option Keyword → Result Token ℕ
letters_token w None = name_token w
letters_token w (Some k) = Ok (word k)

-- a word that begins with a digit: a number where it is one
abbrev pub digits_token : Option ℕ → Result Token ℕ
digits_token None = Err kind_no_number
digits_token (Some k) = Ok (number k)

-- what a word of a language is, or the kind of its fault
abbrev pub word_token : Language → List ℕ → Result Token ℕ
word_token language w =
    if list_any is_digit (take 1 w) then digits_token (number_of w) else letters_token w (keyword_in language w)

-- ---- the next token

-- the longest run of word bytes at the front
abbrev pub word_of : List ℕ → List ℕ
word_of text = take (prefix_len is_word_byte text) text

-- what follows that run
abbrev pub after_word : List ℕ → List ℕ
after_word text = drop (prefix_len is_word_byte text) text

-- a token and what is left behind it, or the fault there
abbrev pub Front : Type 0
Front = Result (Token × List ℕ) SyntaxFault

-- the token with what is left behind it, or the fault of that kind at this place
abbrev pub placed : ℕ → Result Token ℕ → List ℕ → Front
placed at (Ok t) rest = Ok (t, rest)
placed at (Err kind) rest = Err (record { at = at; kind = kind })

-- the token that begins here, where neither a blank nor a comment does: the end, a word, or a sign
abbrev pub token_here : Scan → List ℕ → Front
token_here scan [] = Ok (the_end, [])
token_here scan (b ∷ bs) =
    if is_word_byte b
    then placed (scan.total - length (b ∷ bs)) (word_token scan.language (word_of (b ∷ bs))) (after_word (b ∷ bs))
    else placed (scan.total - length (b ∷ bs)) (sign_token (sign_of scan.offsets b)) bs

-- the next token of a text of which this is left
unfoldable pub front : Scan → List ℕ → Front
front scan text = token_here scan (after_gap text)

-- where that token begins
abbrev pub place : Scan → List ℕ → ℕ
place scan text = scan.total - length (after_gap text)

-- these tokens are the next ones, one after the other, and the rest is left
abbrev pub Leads : Scan → List ℕ → List Token → List ℕ → Type 0
Leads scan text [] rest = text ≡ rest
Leads scan text (t ∷ ts) rest = (mid : List ℕ) × (front scan text ≡ Ok (t, mid)) × Leads scan mid ts rest
