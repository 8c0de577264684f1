-- What the grammar says of the place of a first fault.
use Rattle.std.specs.Prelude.{◌≡◌, ℕ, Bool, if◌then◌else◌, List, [], ◌∷◌, ◌++◌, codes, reverse, Option, Some, None}
use Rattle.std.specs.Str.{bytes_eq}
use Rattle.std.specs.List.{list_any}
use Rattle.pl_syntax.specs.declared.fault.SyntaxFault.{SyntaxFault}
use Rattle.pl_syntax.specs.declared.token.Sign.TheVariants.{OpenBrace}
use Rattle.pl_syntax.specs.Tokens.{Token, sign, name, place}
use Rattle.pl_syntax.specs.Grammar.{HasFault, ReadsTokens, open_after, scan_of}
use Rattle.explain_syntax.specs.declared.stand.Behind.{Behind}
use Rattle.explain_syntax.specs.declared.stand.Behind.TheVariants.{ClockWord, Condition, Header, Other, Repetition}
use Rattle.explain_syntax.specs.declared.stand.GrammarStand.{GrammarStand}
use Rattle.explain_syntax.specs.Wanted.{IsWanted}

-- the words with which statements of the language of clocks begin
abbrev pub clock_words : List (List ℕ)
clock_words = codes "clock" ∷ codes "async" ∷ codes "finish" ∷ codes "advance" ∷ codes "resume" ∷ codes "drop" ∷ []

-- the words with which other languages begin a loop
abbrev pub loop_words : List (List ℕ)
loop_words = codes "while" ∷ codes "for" ∷ []

-- the name is one of those, or `pl`, or a word of other languages, or another one
abbrev pub kind_of_name : List ℕ → Behind
kind_of_name x =
    if list_any (bytes_eq x) clock_words then ClockWord
    else (if bytes_eq x (codes "pl") then Header
    else (if bytes_eq x (codes "if") then Condition else (if list_any (bytes_eq x) loop_words then Repetition else Other)))

-- what the first of these tokens is as a name
abbrev pub first_as_name : List Token → Behind
first_as_name (name x ∷ ts) = kind_of_name x
first_as_name ts = Other

-- what the last of these tokens is as a name
abbrev pub last_as_name : List Token → Behind
last_as_name ts = first_as_name (reverse ts)

-- these tokens close each brace that they open, and no other one: behind them as many are open as before, however many
abbrev pub IsBalanced : List Token → Type 0
IsBalanced ts = (n : ℕ) → open_after n ts ≡ n

-- byte `at` of the text is an open brace, which these tokens close no more
pub record IsInnermost (text : List ℕ) (two : Bool) (before : List Token) (at : ℕ) : Type 0 where
  pub ahead : List Token
  pub inner : List Token
  pub left : List ℕ
  pub splits : before ≡ ahead ++ sign OpenBrace ∷ inner
  pub closed : IsBalanced inner
  pub reads : ReadsTokens two text ahead left
  pub at_is : at ≡ place (scan_of two text) left

-- the innermost brace that is open behind these tokens, if one is open
abbrev pub HasBrace : List ℕ → Bool → List Token → Option ℕ → Type 0
HasBrace text two before None = IsBalanced before
HasBrace text two before (Some at) = IsInnermost text two before at

-- what the grammar says of the place behind these tokens
pub record StandsBehind (text : List ℕ) (two : Bool) (before : List Token) (stand : GrammarStand) : Type 0 where
  pub wanted : IsWanted two before stand.wanted
  pub behind : stand.behind ≡ last_as_name before
  pub brace : HasBrace text two before stand.brace

-- what the grammar says of the place of the first fault of a text
pub record IsStand (text : List ℕ) (fault : SyntaxFault) (stand : GrammarStand) : Type 0 where
  pub found : HasFault text fault
  pub stands : StandsBehind text found.two found.before stand
