-- Places to which a walk along the codes leads.
use Rattle.std.specs.Prelude.{◌≡◌, List, length}
use Rattle.armus_base.specs.Plans.{Plan}
use Rattle.armus_base.specs.Runs.{IsReachable}
use Rattle.pl_core.specs.declared.place.Place.{Place as KeptPlace}
use Rattle.pl_core.specs.calls.Worlds.{places_at}

-- there is one place for each task, and a legal run leads to these places
pub record AreReachable (plan : Plan) (places : List KeptPlace) : Type 0 where
  pub one_each : length places ≡ length plan.parents
  pub reachable : IsReachable plan (places_at plan places)
