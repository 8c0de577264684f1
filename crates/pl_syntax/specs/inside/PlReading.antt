-- The statements of PL, as they are read.
use Rattle.std.specs.Prelude.{ℕ, Bool, true, false, List, Result, Ok, Err}
use Rattle.pl_syntax.specs.declared.fault.SyntaxFault.{SyntaxFault}
use Rattle.pl_syntax.specs.declared.reader.StmtHead.{StmtHead}
use Rattle.pl_syntax.specs.declared.reader.StmtHead.TheVariants as h
use Rattle.pl_syntax.specs.declared.scan.Scan.{Scan}
use Rattle.pl_syntax.specs.declared.statement.Begun.{Begun}
use Rattle.pl_syntax.specs.declared.statement.Begun.TheVariants.{Whole, Head}
use Rattle.pl_syntax.specs.declared.token.Keyword.TheVariants as k
use Rattle.pl_syntax.specs.declared.token.Sign.TheVariants.{OpenParen, Semicolon}
use Rattle.pl_syntax.specs.declared.tree.Program.{Program}
use Rattle.pl_syntax.specs.declared.tree.Stmt.{Stmt}
use Rattle.pl_syntax.specs.declared.tree.Stmt.TheVariants as s
use Rattle.pl_syntax.specs.Tokens.{Token, word, name}
use Rattle.pl_syntax.specs.Grammar.{scan_of}
use Rattle.pl_syntax.specs.Tree.{count, done}
use Rattle.pl_syntax.specs.calls.Bodies.{followed_by, tree_of}
use Rattle.pl_syntax.specs.inside.Reading.{◌>>=◌, unexpected, sign_at, name_at, offset_at, in_parens_at, pair_at, drawn_at, header_at, whole_by}
use Rattle.pl_syntax.specs.inside.Statements.{Statements, named_by, statement_at}

-- what is read of a statement of PL
abbrev pub StmtRead : Type 0
StmtRead = Result (Begun Stmt StmtHead × List ℕ) SyntaxFault

-- `x = newTid();`, or `x = newPhaser();`
abbrev pub drawn_stmt : List ℕ → Bool → Stmt
drawn_stmt x true = s.NewTask x
drawn_stmt x false = s.NewPhaser x

-- the rest of a statement that begins with a name
unfoldable pub drawing_at : Scan → List ℕ → List ℕ → StmtRead
drawing_at scan x text = do
  made ← drawn_at scan text
  Ok (Whole (drawn_stmt x made.0), made.1)

-- `reg(x, y);`, behind its first word
unfoldable pub reg_at : Scan → List ℕ → StmtRead
reg_at scan text = do
  p ← pair_at scan text
  Ok (Whole (s.Reg p.0 p.1), p.2)

-- `await(x);`, `await(x - k);` or `await(x + k);`, behind its first word
unfoldable pub await_at : Scan → List ℕ → StmtRead
await_at scan text = do
  open_ ← sign_at scan OpenParen text
  x ← name_at scan open_
  off ← offset_at scan x.1
  rest ← sign_at scan Semicolon off.1
  Ok (Whole (s.Await x.0 off.0), rest)

-- `fork(x)`, behind its first word
unfoldable pub fork_at : Scan → List ℕ → StmtRead
fork_at scan text = do
  x ← in_parens_at scan text
  Ok (Head (h.Fork x.0), x.1)

-- what is read of the statement that this token begins; before is the text from that token on
abbrev pub stmt_begun : Scan → Token → List ℕ → List ℕ → StmtRead
stmt_begun scan (name x) before text = drawing_at scan x text
stmt_begun scan (word k.Reg) before text = reg_at scan text
stmt_begun scan (word k.Dereg) before text = named_by s.Dereg scan text
stmt_begun scan (word k.Adv) before text = named_by s.Adv scan text
stmt_begun scan (word k.Await) before text = await_at scan text
stmt_begun scan (word k.Fork) before text = fork_at scan text
stmt_begun scan _ before text = Err (unexpected scan before)

-- the statement with this before its body and these in it
abbrev pub stmt_holding : StmtHead → List Stmt → Stmt
stmt_holding (h.Fork x) items = s.Fork x (tree_of items)
stmt_holding (h.Loop k) items = s.Loop k (tree_of items)

-- how many statements this is, those of its body included
abbrev pub stmt_count : Stmt → ℕ
stmt_count s = count (followed_by s done)

-- the statements of PL
abbrev pub stmts : Statements Stmt StmtHead
stmts = record { skip = s.Skip; looped = h.Loop; begun = stmt_begun; holding = stmt_holding }

-- the statements of a whole text of PL, of which this is left behind the header
abbrev pub stmts_at : Scan → List ℕ → Result (List Stmt) SyntaxFault
stmts_at scan text = whole_by (statement_at stmts) scan text

-- the program of a whole text
unfoldable pub program_at : List ℕ → Result Program SyntaxFault
program_at text = do
  begun ← header_at (scan_of false text) text
  items ← stmts_at (scan_of begun.0 text) begun.1
  Ok (record { two = begun.0; body = tree_of items })
