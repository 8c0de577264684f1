-- The world of given places.
use Rattle.std.specs.Prelude.{◌≡◌, List}
use Rattle.armus_base.specs.Plans.{Plan}
use Rattle.pl_core.specs.declared.place.Place.{Place as KeptPlace}
use Rattle.pl_core.specs.calls.Worlds.{WorldValue}

-- the world of the plan at the given places
pub record IsAtPlaces (plan : Plan) (given : List KeptPlace) (w : WorldValue) : Type 0 where
  pub plan_is : w.plan ≡ plan
  pub places : w.places ≡ given
