-- Where the statements of a text begin: an offset is a number of bytes before.
use Rattle.std.specs.Prelude.{◌≡◌, ℕ, List}
use Rattle.pl_syntax.specs.declared.tree.Program.{Program}
use Rattle.pl_syntax.specs.StatementOffsets.{AreOffsets}

-- a text's program has one list of them
abbrev pub HasOneListOfOffsets : Type 0
HasOneListOfOffsets = (text : List ℕ) (p : Program) (xs ys : List ℕ) → AreOffsets text p xs → AreOffsets text p ys → xs ≡ ys
