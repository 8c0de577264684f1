use Rattle.armus_base.proofs.laws.pieces.unfolded_straight.Goals as goal
use Rattle.armus_base.proofs.Unfolding.{straight_is_folded, unfolded-straight}

pub returns : goal.returns
returns c = record { ops = unfolded-straight; folded = straight_is_folded }
