use Rattle.armus_base.proofs.laws.pieces.worked_pieces.Goals as goal
use Rattle.armus_base.proofs.WorkedPieces.{as_deep_as_may_be, excludes_pieces, in_a_loop_is, three_deep_is}

pub returns : goal.returns
returns c = record { loops = in_a_loop_is; turns = three_deep_is; deep = as_deep_as_may_be; excluded = excludes_pieces }
