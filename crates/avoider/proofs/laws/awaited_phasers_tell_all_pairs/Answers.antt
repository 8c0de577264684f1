use Rattle.avoider.proofs.SamePairs.{same_pairs}
use Rattle.avoider.proofs.laws.awaited_phasers_tell_all_pairs.Goals as goal

pub returns : goal.returns
returns c = same_pairs
