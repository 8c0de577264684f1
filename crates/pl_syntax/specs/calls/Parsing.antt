-- What `parse` answers.
use Rattle.std.specs.Prelude.{◌≡◌, ℕ, List, Result, Ok, Err}
use Rattle.pl_syntax.specs.declared.fault.SyntaxFault.{SyntaxFault}
use Rattle.pl_syntax.specs.declared.fault.ParseEnd.{ParseEnd}
use Rattle.pl_syntax.specs.declared.fault.ParseEnd.TheVariants as ends
use Rattle.pl_syntax.specs.declared.tree.Program.{Program}
use Rattle.pl_syntax.specs.Grammar.{HasFault}

-- the answer is this program, or that memory ran out
abbrev pub GivesProgram : Result Program ParseEnd → Program → Type 0
GivesProgram (Ok found) p = found ≡ p
GivesProgram (Err ends.NoMemory) p = Unit {0}
GivesProgram (Err (ends.Syntax found)) p = ⊥

-- the answer is this fault, or that memory ran out
abbrev pub GivesFault : Result Program ParseEnd → SyntaxFault → Type 0
GivesFault (Ok found) f = ⊥
GivesFault (Err ends.NoMemory) f = Unit {0}
GivesFault (Err (ends.Syntax found)) f = found ≡ f

-- a fault that is answered is the first one of the text
abbrev pub IsFirstIfFault : List ℕ → ParseEnd → Type 0
IsFirstIfFault text ends.NoMemory = Unit {0}
IsFirstIfFault text (ends.Syntax f) = HasFault text f
