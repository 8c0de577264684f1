use Rattle.dep_state.specs.inside.Made.{IsPlacesOf}
use Rattle.dep_state.proofs.events.places.Given as goal

abbrev pub invariant-loop-k : goal.invariant-loop-k
invariant-loop-k l = IsPlacesOf l.list l.events l.k l.places.items
