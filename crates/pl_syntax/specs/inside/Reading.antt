-- What each function of the reader gives, as a function on bytes. No public clause and no definition of the language names these:
-- proofs/ shows that what they give is the tree of the grammar, or the first fault.
use Rattle.std.specs.Str.{bytes_eq}
use Rattle.std.specs.Prelude.{codes, ◌≡◌, ℕ, zero, suc, ◌+◌, ◌==◌, Bool, true, false, if◌then◌else◌, List, [], ◌∷◌, length, Result, Ok, Err, nat_lt}
use Rattle.pl_syntax.specs.declared.limits.TheConstants.{MAX_OPEN_BRACES}
use Rattle.pl_syntax.specs.declared.fault.TheConstants.{CANNOT_STAND, TOO_DEEP}
use Rattle.pl_syntax.specs.declared.token.Sign.{Sign}
use Rattle.pl_syntax.specs.declared.token.Sign.TheVariants.{Equals, OpenParen, CloseParen, Comma, Semicolon, OpenBrace, CloseBrace, Plus, Minus}
use Rattle.pl_syntax.specs.declared.token.Keyword.TheVariants as k
use Rattle.pl_syntax.specs.declared.fault.SyntaxFault.{SyntaxFault}
use Rattle.pl_syntax.specs.declared.fault.ParseEnd.{ParseEnd}
use Rattle.pl_syntax.specs.declared.fault.ParseEnd.TheVariants as ends
use Rattle.armus_base.specs.declared.offset.Offset.{Offset}
use Rattle.armus_base.specs.declared.offset.Offset.TheVariants.{Ahead, Back, Here}
use Rattle.pl_syntax.specs.declared.scan.Scan.{Scan}
use Rattle.pl_syntax.specs.Tokens.{Token, the_end, sign, word, name, number, front, place}

infixl 10 ◌>>=◌
-- the next step of reading, where the one before found no fault
abbrev pub ◌>>=◌ : {A B : Type 0} → Result A SyntaxFault → (A → Result B SyntaxFault) → Result B SyntaxFault
(Ok x) >>= f = f x
(Err e) >>= f = Err e

-- an error that a function returned is the fault that reading gives, or that memory ran out
abbrev pub Fails : {Y : Type 0} → ParseEnd → Result Y SyntaxFault → Type 0
Fails ends.NoMemory read = Unit {0}
Fails (ends.Syntax f) read = read ≡ Err f

-- what a function that takes memory returned, seen by view, is what reading gives, unless memory ran out
abbrev pub Gives : {X Y : Type 0} → (X → Y) → Result X ParseEnd → Result Y SyntaxFault → Type 0
Gives view (Ok x) read = read ≡ Ok (view x)
Gives view (Err e) read = Fails e read

-- the same of a function that takes no memory
abbrev pub result_seen : {X Y : Type 0} → (X → Y) → Result X SyntaxFault → Result Y SyntaxFault
result_seen view (Ok x) = Ok (view x)
result_seen view (Err e) = Err e

-- a number for each sign, by which signs are told apart
abbrev pub sign_number : Sign → ℕ
sign_number Equals = 0
sign_number OpenParen = 1
sign_number CloseParen = 2
sign_number Comma = 3
sign_number Semicolon = 4
sign_number OpenBrace = 5
sign_number CloseBrace = 6
sign_number Plus = 7
sign_number Minus = 8

-- the fault of the next token, which cannot stand here
abbrev pub unexpected : Scan → List ℕ → SyntaxFault
unexpected scan text = record { at = place scan text; kind = CANNOT_STAND }

-- what is left behind this token, where it is this sign
abbrev pub sign_in : Scan → Sign → List ℕ → Token → List ℕ → Result (List ℕ) SyntaxFault
sign_in scan s text (sign found) rest = if sign_number found == sign_number s then Ok rest else Err (unexpected scan text)
sign_in scan s text the_end rest = Err (unexpected scan text)
sign_in scan s text (word _) rest = Err (unexpected scan text)
sign_in scan s text (name _) rest = Err (unexpected scan text)
sign_in scan s text (number _) rest = Err (unexpected scan text)

-- the text after this sign
unfoldable pub sign_at : Scan → Sign → List ℕ → Result (List ℕ) SyntaxFault
sign_at scan s text = front scan text >>= λ x. sign_in scan s text x.0 x.1

-- this token as a name
abbrev pub name_in : Scan → List ℕ → Token → List ℕ → Result (List ℕ × List ℕ) SyntaxFault
name_in scan text (name x) rest = Ok (x, rest)
name_in scan text the_end rest = Err (unexpected scan text)
name_in scan text (sign _) rest = Err (unexpected scan text)
name_in scan text (word _) rest = Err (unexpected scan text)
name_in scan text (number _) rest = Err (unexpected scan text)

-- a name, and the text after it
unfoldable pub name_at : Scan → List ℕ → Result (List ℕ × List ℕ) SyntaxFault
name_at scan text = front scan text >>= λ x. name_in scan text x.0 x.1

-- this token as a number
abbrev pub number_read : Scan → List ℕ → Token → List ℕ → Result (ℕ × List ℕ) SyntaxFault
number_read scan text (number n) rest = Ok (n, rest)
number_read scan text the_end rest = Err (unexpected scan text)
number_read scan text (sign _) rest = Err (unexpected scan text)
number_read scan text (word _) rest = Err (unexpected scan text)
number_read scan text (name _) rest = Err (unexpected scan text)

-- a number, and what is left behind it
unfoldable pub number_at : Scan → List ℕ → Result (ℕ × List ℕ) SyntaxFault
number_at scan text = front scan text >>= λ x. number_read scan text x.0 x.1

-- whether a task is made, or a phaser
abbrev pub maker_in : Scan → List ℕ → Token → List ℕ → Result (Bool × List ℕ) SyntaxFault
maker_in scan text (word k.NewTid) rest = Ok (true, rest)
maker_in scan text (word k.NewPhaser) rest = Ok (false, rest)
maker_in scan text _ rest = Err (unexpected scan text)

-- the same of the next token
unfoldable pub maker_at : Scan → List ℕ → Result (Bool × List ℕ) SyntaxFault
maker_at scan text = front scan text >>= λ x. maker_in scan text x.0 x.1

-- `( x )`
unfoldable pub in_parens_at : Scan → List ℕ → Result (List ℕ × List ℕ) SyntaxFault
in_parens_at scan text = do
  open_ ← sign_at scan OpenParen text
  x ← name_at scan open_
  close ← sign_at scan CloseParen x.1
  Ok (x.0, close)

-- `( x ) ;`
unfoldable pub named_at : Scan → List ℕ → Result (List ℕ × List ℕ) SyntaxFault
named_at scan text = do
  x ← in_parens_at scan text
  rest ← sign_at scan Semicolon x.1
  Ok (x.0, rest)

-- `( x , y ) ;`
unfoldable pub pair_at : Scan → List ℕ → Result (List ℕ × List ℕ × List ℕ) SyntaxFault
pair_at scan text = do
  open_ ← sign_at scan OpenParen text
  x ← name_at scan open_
  comma ← sign_at scan Comma x.1
  y ← name_at scan comma
  close ← sign_at scan CloseParen y.1
  rest ← sign_at scan Semicolon close
  Ok (x.0, y.0, rest)

-- `= newTid ( ) ;` and the like
unfoldable pub drawn_at : Scan → List ℕ → Result (Bool × List ℕ) SyntaxFault
drawn_at scan text = do
  equals ← sign_at scan Equals text
  maker ← maker_at scan equals
  open_ ← sign_at scan OpenParen maker.1
  close ← sign_at scan CloseParen open_
  rest ← sign_at scan Semicolon close
  Ok (maker.0, rest)

-- `k )`, as an offset
unfoldable pub far_at : Scan → (ℕ → Offset) → List ℕ → Result (Offset × List ℕ) SyntaxFault
far_at scan way text = do
  k ← number_at scan text
  close ← sign_at scan CloseParen k.1
  Ok (way k.0, close)

-- `)`, `- k )` or `+ k )`, from this token on
abbrev pub offset_in : Scan → List ℕ → Token → List ℕ → Result (Offset × List ℕ) SyntaxFault
offset_in scan text (sign CloseParen) rest = Ok (Here, rest)
offset_in scan text (sign Minus) rest = far_at scan Back rest
offset_in scan text (sign Plus) rest = far_at scan Ahead rest
offset_in scan text _ rest = Err (unexpected scan text)

-- `)`, `- k )` or `+ k )`
unfoldable pub offset_at : Scan → List ℕ → Result (Offset × List ℕ) SyntaxFault
offset_at scan text = front scan text >>= λ x. offset_in scan text x.0 x.1

-- a brace, where so many are open before it
unfoldable pub opened_at : Scan → ℕ → List ℕ → Result (List ℕ) SyntaxFault
opened_at scan depth text = do
  rest ← sign_at scan OpenBrace text
  if nat_lt depth MAX_OPEN_BRACES then Ok rest else Err (record { at = place scan text; kind = TOO_DEEP })

-- ---- statements

-- what reads statements of some kind, where so many braces are open
abbrev pub BlockOf : Type 0 → Type 0
BlockOf S = ℕ → List ℕ → Result (List S × List ℕ) SyntaxFault

-- `{`, statements, `}`
unfoldable pub braced_at : {S : Type 0} → BlockOf S → Scan → ℕ → List ℕ → Result (List S × List ℕ) SyntaxFault
braced_at body scan depth text = do
  open_ ← opened_at scan depth text
  inner ← body (depth + 1) open_
  close ← sign_at scan CloseBrace inner.1
  Ok (inner.0, close)

-- a list of statements ends before these tokens
abbrev pub ends_list : Token → Bool
ends_list the_end = true
ends_list (sign CloseBrace) = true
ends_list _ = false

-- What stands up to a token at which a list ends, each item read by this function. The number bounds how many there are; the length of the text is enough.
unfoldable pub listed_by :
    {S : Type 0} → (Token → Bool) → (BlockOf S → Scan → ℕ → Token → List ℕ → List ℕ → Result (S × List ℕ) SyntaxFault) → ℕ → Scan → BlockOf S
listed_by closes one zero scan depth text = Ok ([], text)
listed_by closes one (suc n) scan depth text =
    front scan text >>= λ x.
    if closes x.0 then Ok ([], text)
    else (one (listed_by closes one n scan) scan depth x.0 text x.1 >>= λ s.
    listed_by closes one n scan depth s.1 >>= λ more. Ok (s.0 ∷ more.0, more.1))

-- the statements up to the end of a body or of the text, each read by this function
abbrev pub statements_by : {S : Type 0} → (BlockOf S → Scan → ℕ → Token → List ℕ → List ℕ → Result (S × List ℕ) SyntaxFault) → ℕ → Scan → BlockOf S
statements_by one n scan depth text = listed_by ends_list one n scan depth text

-- what was read, where this token is the end
abbrev pub ended_at : {S : Type 0} → Scan → List S → List ℕ → Token → Result (List S) SyntaxFault
ended_at scan items text the_end = Ok items
ended_at scan items text (sign _) = Err (unexpected scan text)
ended_at scan items text (word _) = Err (unexpected scan text)
ended_at scan items text (name _) = Err (unexpected scan text)
ended_at scan items text (number _) = Err (unexpected scan text)

-- the statements of what is left of a text, each read by this function
unfoldable pub whole_by : {S : Type 0} → (BlockOf S → Scan → ℕ → Token → List ℕ → List ℕ → Result (S × List ℕ) SyntaxFault) → Scan → List ℕ → Result (List S) SyntaxFault
whole_by one scan text = do
  all ← statements_by one (length text + 1) scan 0 text
  last ← front scan all.1
  ended_at scan all.0 all.1 last.0

-- this token is the name `pl`
abbrev pub is_pl : Token → Bool
is_pl (name x) = bytes_eq x (codes "pl")
is_pl _ = false

-- this token is the number 2
abbrev pub is_two : Token → Bool
is_two (number k) = k == 2
is_two _ = false

-- behind `pl 2`, the text that is left behind the sign; and the whole text where it does not begin so
abbrev pub behind_two : Scan → List ℕ → Token × List ℕ → Result (Bool × List ℕ) SyntaxFault
behind_two scan text second =
    if is_two second.0 then (sign_at scan Semicolon second.1 >>= λ rest. Ok (true, rest)) else Ok (false, text)

-- behind `pl`, whether the rest of the header follows, and what is left behind it; and the whole text where it does not begin so
abbrev pub behind_pl : Scan → List ℕ → Token × List ℕ → Result (Bool × List ℕ) SyntaxFault
behind_pl scan text first =
    if is_pl first.0 then (front scan first.1 >>= λ second. behind_two scan text second) else Ok (false, text)

-- whether the text is one of PL 2, and what is left behind its header
unfoldable pub header_at : Scan → List ℕ → Result (Bool × List ℕ) SyntaxFault
header_at scan text = front scan text >>= λ first. behind_pl scan text first
