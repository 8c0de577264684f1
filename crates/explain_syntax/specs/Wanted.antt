-- Which tokens may stand at a place of a text.
use Rattle.std.specs.Prelude.{ℕ, ◌==◌, Bool, true, false, ◌||◌, ◌↔◌, IsTrue, List, [], ◌∷◌, ◌++◌, codes}
use Rattle.pl_syntax.specs.declared.token.Keyword.{Keyword}
use Rattle.pl_syntax.specs.declared.token.Keyword.TheVariants as k
use Rattle.pl_syntax.specs.declared.token.Sign.{Sign}
use Rattle.pl_syntax.specs.declared.token.Sign.TheVariants as s
use Rattle.pl_syntax.specs.Tokens.{Token, the_end, sign, word, name, number}
use Rattle.pl_syntax.specs.Grammar.{Begins}
use Rattle.explain_syntax.specs.declared.wanted.WantedTokens.{WantedTokens}
use Rattle.explain_syntax.specs.declared.wanted.WantedTokens.TheVariants as w

-- a statement begins with this keyword
abbrev pub is_statement_keyword : Keyword → Bool
is_statement_keyword k.Fork = true
is_statement_keyword k.Reg = true
is_statement_keyword k.Dereg = true
is_statement_keyword k.Adv = true
is_statement_keyword k.Await = true
is_statement_keyword k.Loop = true
is_statement_keyword k.Skip = true
is_statement_keyword _ = false

-- a statement begins with this token
abbrev pub is_first : Token → Bool
is_first (name x) = true
is_first (word keyword) = is_statement_keyword keyword
is_first _ = false

-- a number for each sign
abbrev pub sign_key : Sign → ℕ
sign_key s.Equals = 0
sign_key s.OpenParen = 1
sign_key s.CloseParen = 2
sign_key s.Comma = 3
sign_key s.Semicolon = 4
sign_key s.OpenBrace = 5
sign_key s.CloseBrace = 6
sign_key s.Plus = 7
sign_key s.Minus = 8

-- the token is this sign
abbrev pub is_sign : Sign → Token → Bool
is_sign s (sign found) = sign_key found == sign_key s
is_sign s _ = false

-- the token is one of those that are wanted
abbrev pub is_wanted : WantedTokens → Token → Bool
is_wanted w.StatementOrBrace t = is_first t || is_sign s.CloseBrace t
is_wanted w.StatementOrEnd the_end = true
is_wanted w.StatementOrEnd t = is_first t
is_wanted w.EqualsOrTwo (number n) = n == 2
is_wanted w.EqualsOrTwo t = is_sign s.Equals t
is_wanted w.ParenOrOffset t = is_sign s.CloseParen t || (is_sign s.Plus t || is_sign s.Minus t)
is_wanted (w.Sign s) t = is_sign s t
is_wanted w.Name (name x) = true
is_wanted w.Name _ = false
is_wanted w.Number (number n) = true
is_wanted w.Number _ = false
is_wanted w.Maker (word k.NewTid) = true
is_wanted w.Maker (word k.NewPhaser) = true
is_wanted w.Maker _ = false

-- a token that texts of PL 1 or of PL 2 have: + and - are tokens of PL 2 alone
abbrev pub IsTokenOf : Bool → Token → Type 0
IsTokenOf false (sign s.Plus) = ⊥
IsTokenOf false (sign s.Minus) = ⊥
IsTokenOf two t = Unit {0}

-- Behind these tokens of a text of PL 1 or PL 2 just this is wanted: some text of the grammar goes on with each token of it, and with no other one.
abbrev pub IsWanted : Bool → List Token → WantedTokens → Type 0
IsWanted two before wanted = (t : Token) → (Begins two (before ++ t ∷ []) × IsTokenOf two t) ↔ IsTrue (is_wanted wanted t)

-- ---- words

-- a sign in a sentence
abbrev pub sign_words : Sign → List ℕ
sign_words s.Equals = codes "'='"
sign_words s.OpenParen = codes "'('"
sign_words s.CloseParen = codes "')'"
sign_words s.Comma = codes "','"
sign_words s.Semicolon = codes "';'"
sign_words s.OpenBrace = codes "'{'"
sign_words s.CloseBrace = codes "'}'"
sign_words s.Plus = codes "'+'"
sign_words s.Minus = codes "'-'"

-- what is wanted, in a sentence
abbrev pub wanted_words : WantedTokens → List ℕ
wanted_words w.StatementOrBrace = codes "a statement or '}'"
wanted_words w.StatementOrEnd = codes "a statement or the end of the text"
wanted_words w.EqualsOrTwo = codes "'=' or '2'"
wanted_words w.ParenOrOffset = codes "')', '+' or '-'"
wanted_words (w.Sign s) = sign_words s
wanted_words w.Name = codes "a name"
wanted_words w.Number = codes "a number"
wanted_words w.Maker = codes "'newTid' or 'newPhaser'"
