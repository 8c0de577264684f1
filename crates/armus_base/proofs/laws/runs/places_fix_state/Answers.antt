use Rattle.armus_base.proofs.laws.runs.places_fix_state.Goals as goal
use Rattle.armus_base.proofs.PlacesFixState.{places_fix_state, same_places_same_state}

pub returns : goal.returns
returns c = record { fixed = places_fix_state; same = same_places_same_state }
