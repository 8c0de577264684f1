-- The grammar of the language of clocks over tokens, and the first fault of a text that is not in it.
use Rattle.std.specs.Prelude.{◌≡◌, ℕ, ◌≤◌, false, List, [], ◌∷◌, ◌++◌, length}
use Rattle.pl_syntax.specs.declared.limits.TheConstants.{MAX_OPEN_BRACES}
use Rattle.pl_syntax.specs.declared.fault.SyntaxFault.{SyntaxFault}
use Rattle.pl_syntax.specs.declared.scan.Language.TheVariants.{Clocks}
use Rattle.pl_syntax.specs.declared.scan.Scan.{Scan}
use Rattle.pl_syntax.specs.declared.token.Keyword.TheVariants as k
use Rattle.pl_syntax.specs.declared.token.Sign.TheVariants.{OpenParen, CloseParen, Comma, Semicolon, OpenBrace, CloseBrace}
use Rattle.pl_syntax.specs.Tokens.{Token, the_end, sign, word, name, number, Leads}
use Rattle.pl_syntax.specs.Grammar.{with_name, IsFirstSyntaxFault}
use Rattle.clock_syntax.specs.Trees.{ClockPlain, clock, advance, resume, drop, skip, ClockTree, done, plain, async, finish, loop, clock_height}

-- ---- the grammar: the tokens of each statement, before the tokens that follow it

-- names with a `,` between each two, or none
abbrev pub names_tokens : List (List ℕ) → List Token → List Token
names_tokens [] rest = rest
names_tokens (x ∷ []) rest = name x ∷ rest
names_tokens (x ∷ y ∷ ys) rest = name x ∷ sign Comma ∷ names_tokens (y ∷ ys) rest

-- the tokens of a statement without a body
abbrev pub clock_plain_tokens : ClockPlain → List Token → List Token
clock_plain_tokens (clock x) rest = word k.Clock ∷ name x ∷ sign Semicolon ∷ rest
clock_plain_tokens (advance x) rest = word k.Advance ∷ with_name x (sign Semicolon ∷ rest)
clock_plain_tokens (resume x) rest = word k.Resume ∷ with_name x (sign Semicolon ∷ rest)
clock_plain_tokens (drop x) rest = word k.Drop ∷ with_name x (sign Semicolon ∷ rest)
clock_plain_tokens skip rest = word k.Skip ∷ sign Semicolon ∷ rest

-- the tokens of a list of statements
abbrev pub clock_tokens : ClockTree → List Token → List Token
clock_tokens done rest = rest
clock_tokens (plain s more) rest = clock_plain_tokens s (clock_tokens more rest)
clock_tokens (async xs body more) rest =
    word k.Async ∷ sign OpenParen
    ∷ names_tokens xs (sign CloseParen ∷ sign OpenBrace ∷ clock_tokens body (sign CloseBrace ∷ clock_tokens more rest))
clock_tokens (finish body more) rest = word k.Finish ∷ sign OpenBrace ∷ clock_tokens body (sign CloseBrace ∷ clock_tokens more rest)
clock_tokens (loop n body more) rest = word k.Loop ∷ number n ∷ sign OpenBrace ∷ clock_tokens body (sign CloseBrace ∷ clock_tokens more rest)

-- the tokens of a list of statements, and then the end
abbrev pub clock_sentence : ClockTree → List Token
clock_sentence p = clock_tokens p (the_end ∷ [])

-- how a text of the language of clocks is read
abbrev pub clock_scan : List ℕ → Scan
clock_scan text = record { total = length text; offsets = false; language = Clocks }

-- the text is this program: its tokens are those of the program, and no more braces are open than may be
pub record IsClockText (text : List ℕ) (p : ClockTree) : Type 0 where
  pub reads : Leads (clock_scan text) text (clock_sentence p) []
  pub shallow : clock_height p ≤ MAX_OPEN_BRACES

-- ---- the first fault

-- some text begins so, the limit on open braces left aside
abbrev pub ClockBegins : List Token → Type 0
ClockBegins ts = (p : ClockTree) × (more : List Token) × (ts ++ more ≡ clock_sentence p)

-- the first fault of a text, behind tokens that are all right
abbrev pub HasClockFault : List ℕ → SyntaxFault → Type 0
HasClockFault text fault = IsFirstSyntaxFault ClockBegins (clock_scan text) text fault
