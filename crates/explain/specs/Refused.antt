-- What is written where a text is refused, and which texts are.
use Rattle.std.specs.Prelude.{◌⊎◌, Option}
use Rattle.pl_syntax.specs.declared.fault.SyntaxFault.{SyntaxFault}
use Rattle.pl_syntax.specs.declared.tree.Program.{Program}
use Rattle.report.specs.declared.refusal.Refusal.{Refusal}
use Rattle.explain_syntax.specs.SyntaxRefusals.{IsSyntaxRefusal}
use Rattle.explain_check.specs.CheckRefusals.{IsCheckRefusal}
use Rattle.program_io.specs.Texts.{Text}
use Rattle.program_io.specs.Programs.{IsFaultOf}

-- the lines of a text, of the file with this name or of none, that is not too long and is refused: for its first syntax fault, or else its first check fault
abbrev pub IsRefusedWith : Option Text → Text → Text → Type 0
IsRefusedWith file text lines = ((fault : SyntaxFault) × IsSyntaxRefusal file text fault lines)
    ⊎ ((program : Program) × IsCheckRefusal file text program lines)

-- the text has a fault
abbrev pub HasSomeFault : Text → Type 0
HasSomeFault text = (why : Refusal) × IsFaultOf text why
