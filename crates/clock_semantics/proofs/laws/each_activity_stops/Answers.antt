use Rattle.clock_semantics.proofs.EachStops.{each_activity_stops as proved}
use Rattle.clock_semantics.proofs.laws.each_activity_stops.Goals as goal

pub returns : goal.returns
returns c = proved
