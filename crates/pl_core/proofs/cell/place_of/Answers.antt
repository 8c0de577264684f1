use Rattle.pl_core.proofs.Cells.{at_lower_bound}
use Rattle.pl_core.proofs.cell.place_of.Goals as goal

pub returns-else-is_at-2 : goal.returns-else-is_at-2
returns-else-is_at-2 c there = c.if-is_at-2.ensures (at_lower_bound c.args.cells.now c.args.t c.first_from-at.result c.requires.ascend c.first_from-at.ensures there)
