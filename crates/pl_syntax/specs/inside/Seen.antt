-- The reader's tokens and results as those of the language, without where their bytes lie in memory.
use Rattle.std.specs.Prelude.{ℕ, List, Result, Ok, Err}
use Rattle.std.specs.Borrow.{Bor}
use Rattle.pl_syntax.specs.declared.fault.SyntaxFault.{SyntaxFault}
use Rattle.pl_syntax.specs.declared.scan.Language.{Language}
use Rattle.pl_syntax.specs.declared.token.Token as token
use Rattle.pl_syntax.specs.declared.token.Token.TheVariants as t
use Rattle.pl_syntax.specs.calls.Words.{IsNameIn}
use Rattle.pl_syntax.specs.Tokens.{Token, the_end, sign, word, name, number, Front}

-- the reader's token as a token of the language
abbrev pub token_of : token.Token → Token
token_of t.End = the_end
token_of (t.Sign s) = sign s
token_of (t.Word k) = word k
token_of (t.Name w) = name w.now
token_of (t.Number k) = number k

-- a token, or the kind of a fault
abbrev pub token_seen : Result token.Token ℕ → Result Token ℕ
token_seen (Ok x) = Ok (token_of x)
token_seen (Err kind) = Err kind

-- a token and what is left behind it, or a fault
abbrev pub front_seen : Result (token.Token × Bor (List ℕ)) SyntaxFault → Front
front_seen (Ok x) = Ok (token_of x.0, x.1.now)
front_seen (Err fault) = Err fault

-- a token that is a name has the form of one in the language
abbrev pub HasForm : Language → token.Token → Type 0
HasForm language (t.Name w) = IsNameIn language w.now
HasForm language _ = Unit {0}
