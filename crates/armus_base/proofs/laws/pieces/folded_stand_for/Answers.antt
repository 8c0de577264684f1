use Rattle.armus_base.proofs.laws.pieces.folded_stand_for.Goals as goal
use Rattle.armus_base.proofs.Unfolding.{folded_stand_for_unfolded, stand_for_unfolded_alone}

pub returns : goal.returns
returns c = record { unfolded = folded_stand_for_unfolded; alone = stand_for_unfolded_alone }
