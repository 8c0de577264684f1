use Rattle.armus_base.proofs.laws.pieces.whole_by_places.Goals as goal
use Rattle.armus_base.proofs.ByPlaces.{whole_by_places}

pub returns : goal.returns
returns c = whole_by_places
