use Rattle.std.proofs.Common.{refl}
use Rattle.armus_base.proofs.laws.texts.worked_offsets.Goals as goal

pub returns : goal.returns
returns c = record { targets = record { own = refl; back = refl; no_farther_back = refl; ahead = refl } }
