use Rattle.pl_core.specs.inside.Cells.{phase_in_cell}
use Rattle.pl_core.specs.inside.LeastPhases.{IsLeastBelow}
use Rattle.pl_core.proofs.least.least_of_all.Given as goal

abbrev pub invariant-loop-at : goal.invariant-loop-at
invariant-loop-at l = IsLeastBelow (phase_in_cell l.cells) l.at l.least
