use Rattle.pl_plan.proofs.CodePieces.{left_pieces_are_computed, left_pieces_unfold, one_list_left, steady_leaves_few}
use Rattle.pl_plan.proofs.laws.left_pieces.Goals as goal

pub returns : goal.returns
returns c = record { folded = left_pieces_unfold; one = one_list_left; computed = left_pieces_are_computed; few = steady_leaves_few }
