use Rattle.std.proofs.Common.{sym}
use Rattle.pl_core.specs.inside.Cells.{phase_in_cell}
use Rattle.pl_core.proofs.least.least_of_all.Goals as goal

pub loop-at-preserved : goal.loop-at-preserved
loop-at-preserved c = c.lesser-least.ensures (phase_in_cell c.args.cells.now) (sym c.phase_at.ensures) c.loop-at.invariant
