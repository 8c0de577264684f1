-- The statements of the language of clocks, as they are read. No public clause and no definition of the language names these: proofs/ shows that what they give
-- is the tree of the grammar, or the first fault.
use Rattle.std.specs.Prelude.{ℕ, ◌+◌, Bool, true, false, List, [], ◌∷◌, length, Result, Ok, Err}
use Rattle.pl_syntax.specs.declared.token.Sign.TheVariants.{OpenParen, CloseParen, Comma, Semicolon}
use Rattle.pl_syntax.specs.declared.token.Keyword.TheVariants as k
use Rattle.pl_syntax.specs.declared.fault.SyntaxFault.{SyntaxFault}
use Rattle.pl_syntax.specs.declared.scan.Scan.{Scan}
use Rattle.pl_syntax.specs.declared.statement.Begun.{Begun}
use Rattle.pl_syntax.specs.declared.statement.Begun.TheVariants.{Whole, Head}
use Rattle.pl_syntax.specs.Tokens.{Token, sign, word, name, front}
use Rattle.pl_syntax.specs.inside.Reading.{◌>>=◌, unexpected, sign_at, name_at, BlockOf, listed_by, whole_by}
use Rattle.pl_syntax.specs.inside.Statements.{Statements, named_by, statement_at}
use Rattle.clock_syntax.specs.declared.reader.ClockHead.{ClockHead}
use Rattle.clock_syntax.specs.declared.reader.ClockHead.TheVariants as h
use Rattle.clock_syntax.specs.declared.tree.ClockStmt.{ClockStmt}
use Rattle.clock_syntax.specs.declared.tree.ClockStmt.TheVariants as s
use Rattle.clock_syntax.specs.Trees.{clock_count, done}
use Rattle.clock_syntax.specs.calls.Bodies.{clock_followed_by, clock_tree_of}
use Rattle.clock_syntax.specs.Grammar.{clock_scan}

-- what is read of a statement
abbrev pub ClockRead : Type 0
ClockRead = Result (Begun ClockStmt ClockHead × List ℕ) SyntaxFault

-- `clock x;`, behind its first word
unfoldable pub clock_at : Scan → List ℕ → ClockRead
clock_at scan text = do
  x ← name_at scan text
  rest ← sign_at scan Semicolon x.1
  Ok (Whole (s.Clock x.0), rest)

-- ---- names

-- what reads names
abbrev pub NameBlock : Type 0
NameBlock = BlockOf (List ℕ)

-- a list of names ends before this token
abbrev pub closes_names : Token → Bool
closes_names (sign CloseParen) = true
closes_names _ = false

-- `, x`, of which this is the first token; before is the text from that token on
abbrev pub comma_name : NameBlock → Scan → ℕ → Token → List ℕ → List ℕ → Result (List ℕ × List ℕ) SyntaxFault
comma_name body scan depth (sign Comma) before text = name_at scan text
comma_name body scan depth _ before text = Err (unexpected scan before)

-- `, y , z ..` up to `)`
abbrev pub later_names_at : ℕ → Scan → List ℕ → Result (List (List ℕ) × List ℕ) SyntaxFault
later_names_at n scan text = listed_by closes_names comma_name n scan 0 text

-- `, y , z .. )` behind the name x
unfoldable pub names_behind : List ℕ → Scan → List ℕ → Result (List (List ℕ) × List ℕ) SyntaxFault
names_behind x scan text = do
  xs ← later_names_at (length text + 1) scan text
  close ← sign_at scan CloseParen xs.1
  Ok (x ∷ xs.0, close)

-- `)`, or `x , y .. )`, from this token on
abbrev pub names_in : Scan → List ℕ → Token → List ℕ → Result (List (List ℕ) × List ℕ) SyntaxFault
names_in scan text (sign CloseParen) rest = Ok ([], rest)
names_in scan text (name x) rest = names_behind x scan rest
names_in scan text _ rest = Err (unexpected scan text)

-- `)`, or `x , y .. )`
unfoldable pub names_at : Scan → List ℕ → Result (List (List ℕ) × List ℕ) SyntaxFault
names_at scan text = front scan text >>= λ x. names_in scan text x.0 x.1

-- ---- statements

-- `async(x, y, ..)`, behind its first word
unfoldable pub async_at : Scan → List ℕ → ClockRead
async_at scan text = do
  open_ ← sign_at scan OpenParen text
  xs ← names_at scan open_
  Ok (Head (h.Async xs.0), xs.1)

-- what is read of the statement that this token begins; before is the text from that token on
abbrev pub clock_begun : Scan → Token → List ℕ → List ℕ → ClockRead
clock_begun scan (word k.Clock) before text = clock_at scan text
clock_begun scan (word k.Advance) before text = named_by s.Advance scan text
clock_begun scan (word k.Resume) before text = named_by s.Resume scan text
clock_begun scan (word k.Drop) before text = named_by s.Drop scan text
clock_begun scan (word k.Async) before text = async_at scan text
clock_begun scan (word k.Finish) before text = Ok (Head h.Finish, text)
clock_begun scan _ before text = Err (unexpected scan before)

-- the statement with this before its body and these in it
abbrev pub clock_holding : ClockHead → List ClockStmt → ClockStmt
clock_holding (h.Async xs) items = s.Async xs (clock_tree_of items)
clock_holding h.Finish items = s.Finish (clock_tree_of items)
clock_holding (h.Loop k) items = s.Loop k (clock_tree_of items)

-- how many statements this is, those of its body included
abbrev pub clock_stmt_count : ClockStmt → ℕ
clock_stmt_count s = clock_count (clock_followed_by s done)

-- the statements of the language of clocks
abbrev pub clock_stmts : Statements ClockStmt ClockHead
clock_stmts = record { skip = s.Skip; looped = h.Loop; begun = clock_begun; holding = clock_holding }

-- the statements of a whole text
abbrev pub clock_stmts_at : List ℕ → Result (List ClockStmt) SyntaxFault
clock_stmts_at text = whole_by (statement_at clock_stmts) (clock_scan text) text
