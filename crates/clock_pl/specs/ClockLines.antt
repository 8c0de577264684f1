-- The line that says why a clock program is refused.
use Rattle.std.specs.Prelude.{ℕ, List, ◌++◌, codes, decimal}
use Rattle.pl_syntax.specs.Printed.{line}

-- a clock fault: its kind, and the number of its statement
abbrev pub clock_fault_line : ℕ → ℕ → List ℕ
clock_fault_line kind statement = line (codes "refused clock " ++ decimal kind ++ codes " statement " ++ decimal statement)
