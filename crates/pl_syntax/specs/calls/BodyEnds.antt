-- Where the bodies of a text end: at the braces that close them.
use Rattle.std.specs.Prelude.{◌≡◌, ℕ, List, Option}
use Rattle.pl_syntax.specs.declared.tree.Program.{Program}
use Rattle.pl_syntax.specs.BodyEnds.{AreEnds}

-- a text's program has one list of them
abbrev pub HasOneListOfEnds : Type 0
HasOneListOfEnds = (text : List ℕ) (p : Program) (xs ys : List (Option ℕ)) → AreEnds text p xs → AreEnds text p ys → xs ≡ ys
