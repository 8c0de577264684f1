use Rattle.clock_semantics.proofs.UnfoldsByPoints.{fault_is_first, unfolding_is_unfolded}
use Rattle.clock_semantics.proofs.laws.clock_unfolding_by_points.Goals as goal

pub returns : goal.returns
returns c = record { unfolds = unfolding_is_unfolded; fault = fault_is_first }
