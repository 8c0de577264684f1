use Rattle.armus_base.proofs.laws.pieces.unfolded_append.Goals as goal
use Rattle.armus_base.proofs.Unfolding.{unfolded-append}
use Rattle.armus_base.proofs.WholeLoops.{unfolded_loop}

pub returns : goal.returns
returns c = record { append = unfolded-append; turns = unfolded_loop }
