-- The statements of a language, as they are read.
use Rattle.std.specs.Prelude.{◌≡◌, ℕ, List, Result, Ok}
use Rattle.pl_syntax.specs.declared.fault.SyntaxFault.{SyntaxFault}
use Rattle.pl_syntax.specs.declared.scan.Scan.{Scan}
use Rattle.pl_syntax.specs.declared.statement.Begun.{Begun}
use Rattle.pl_syntax.specs.declared.statement.Begun.TheVariants.{Whole, Head}
use Rattle.pl_syntax.specs.declared.token.Sign.TheVariants.{Semicolon}
use Rattle.pl_syntax.specs.declared.token.Keyword.TheVariants as k
use Rattle.pl_syntax.specs.Tokens.{Token, word}
use Rattle.pl_syntax.specs.inside.Reading.{◌>>=◌, sign_at, number_at, named_at, BlockOf, braced_at}

-- of statements S, of which H stands before a body: `skip;`, what stands in `loop k`, what is read from a first token on (the text before is that from the
-- token on), and the statement with this before its body and these in it
pub record Statements (S H : Type 0) : Type 0 where
  pub skip : S
  pub looped : ℕ → H
  pub begun : Scan → Token → List ℕ → List ℕ → Result (Begun S H × List ℕ) SyntaxFault
  pub holding : H → List S → S

-- what is whole is one statement
abbrev pub IsOneStatement : {S H : Type 0} → (S → ℕ) → Begun S H → Type 0
IsOneStatement count (Whole s) = count s ≡ 1
IsOneStatement count (Head h) = Unit {0}

-- ---- one statement

-- what is read of the statement that this token begins; before is the text from that token on
abbrev pub begun_at : {S H : Type 0} → Statements S H → Scan → Token → List ℕ → List ℕ → Result (Begun S H × List ℕ) SyntaxFault
begun_at l scan (word k.Skip) before text = sign_at scan Semicolon text >>= λ rest. Ok (Whole l.skip, rest)
begun_at l scan (word k.Loop) before text = number_at scan text >>= λ n. Ok (Head (l.looped n.0), n.1)
begun_at l scan t before text = l.begun scan t before text

-- `( x ) ;`, and the statement that is made of the name
unfoldable pub named_by : {S H : Type 0} → (List ℕ → S) → Scan → List ℕ → Result (Begun S H × List ℕ) SyntaxFault
named_by make scan text = do
  x ← named_at scan text
  Ok (Whole (make x.0), x.1)

-- the statement of which this is read, with its body
abbrev pub with_body : {S H : Type 0} → Statements S H → BlockOf S → Scan → ℕ → Begun S H → List ℕ → Result (S × List ℕ) SyntaxFault
with_body l body scan depth (Whole s) text = Ok (s, text)
with_body l body scan depth (Head h) text = braced_at body scan depth text >>= λ b. Ok (l.holding h b.0, b.1)

-- the statement that this token begins
abbrev pub statement_at : {S H : Type 0} → Statements S H → BlockOf S → Scan → ℕ → Token → List ℕ → List ℕ → Result (S × List ℕ) SyntaxFault
statement_at l body scan depth token before text = begun_at l scan token before text >>= λ x. with_body l body scan depth x.0 x.1
