-- The line of an input that is too long.
use Rattle.std.specs.Prelude.{ℕ, List, [], ◌++◌, codes, Option, Some, None}
use Rattle.pl_syntax.specs.Printed.{line}

-- the name of the file in front, where there is one
abbrev pub named_file : Option (List ℕ) → List ℕ
named_file None = []
named_file (Some file) = file ++ codes ": "

-- the one line
abbrev pub length_refusal : Option (List ℕ) → List ℕ
length_refusal file = line (named_file file ++ codes "the text has more than 1048576 bytes (length)")
