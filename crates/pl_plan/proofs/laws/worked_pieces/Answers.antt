use Rattle.pl_plan.proofs.WorkedPieces.{folded_loops_are, other_loops_are}
use Rattle.pl_plan.proofs.laws.worked_pieces.Goals as goal

pub returns : goal.returns
returns c = record { folded = folded_loops_are; others = other_loops_are }
