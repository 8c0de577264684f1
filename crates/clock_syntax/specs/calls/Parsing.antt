-- What `clock_parse` answers.
use Rattle.std.specs.Prelude.{◌≡◌, ℕ, List, Result, Ok, Err}
use Rattle.pl_syntax.specs.declared.fault.SyntaxFault.{SyntaxFault}
use Rattle.pl_syntax.specs.declared.fault.ParseEnd.{ParseEnd}
use Rattle.pl_syntax.specs.declared.fault.ParseEnd.TheVariants as ends
use Rattle.clock_syntax.specs.declared.tree.ClockProgram.{ClockProgram}
use Rattle.clock_syntax.specs.Trees.{ClockTree}
use Rattle.clock_syntax.specs.Grammar.{HasClockFault}

-- the answer is the program with this tree, or that memory ran out
abbrev pub GivesClockProgram : Result ClockProgram ParseEnd → ClockTree → Type 0
GivesClockProgram (Ok found) p = found.body ≡ p
GivesClockProgram (Err ends.NoMemory) p = Unit {0}
GivesClockProgram (Err (ends.Syntax found)) p = ⊥

-- the answer is this fault, or that memory ran out
abbrev pub GivesClockFault : Result ClockProgram ParseEnd → SyntaxFault → Type 0
GivesClockFault (Ok found) f = ⊥
GivesClockFault (Err ends.NoMemory) f = Unit {0}
GivesClockFault (Err (ends.Syntax found)) f = found ≡ f

-- a fault that is answered is the first one of the text
abbrev pub ExplainsClocks : List ℕ → ParseEnd → Type 0
ExplainsClocks text ends.NoMemory = Unit {0}
ExplainsClocks text (ends.Syntax f) = HasClockFault text f
