-- How an await is written.
use Rattle.std.specs.Prelude.{ℕ, List, ◌++◌, codes}
use Rattle.armus_base.specs.declared.offset.Offset.{Offset}
use Rattle.pl_syntax.specs.Printed.{offset_text}

-- the words of an await: await(pc), or in PL 2 await(pc + 1)
abbrev pub await_text : List ℕ → Offset → List ℕ
await_text x off = codes "await(" ++ x ++ offset_text off ++ codes ")"
