-- The line that says why an input is refused.
use Rattle.std.specs.Prelude.{ℕ, List, ◌++◌, codes, decimal}
use Rattle.pl_syntax.specs.Printed.{line}
use Rattle.report.specs.declared.refusal.Refusal.{Refusal}
use Rattle.report.specs.declared.refusal.Refusal.TheVariants.{Length, Syntax, Check, Schedule}

-- a syntax fault: its kind, and its place in bytes
abbrev pub syntax_line : ℕ → ℕ → List ℕ
syntax_line kind at = line (codes "refused syntax " ++ decimal kind ++ codes " at " ++ decimal at)

-- a check fault: its kind, and the number of its statement
abbrev pub check_line : ℕ → ℕ → List ℕ
check_line kind statement = line (codes "refused check " ++ decimal kind ++ codes " statement " ++ decimal statement)

-- a schedule's fault: its kind, and the number of its line
abbrev pub schedule_line : ℕ → ℕ → List ℕ
schedule_line kind number = line (codes "refused schedule " ++ decimal kind ++ codes " line " ++ decimal number)

-- the line that says why an input is refused
abbrev pub refusal_text : Refusal → List ℕ
refusal_text Length = line (codes "refused length")
refusal_text (Syntax fault) = syntax_line fault.kind fault.at
refusal_text (Check fault) = check_line fault.kind fault.statement
refusal_text (Schedule fault) = schedule_line fault.kind fault.line
