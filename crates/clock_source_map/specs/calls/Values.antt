-- What contracts see of the origins of a clock program.
use Rattle.std.specs.Prelude.{◌≡◌, ℕ, List}
use Rattle.clock_semantics.specs.Unfolding.{ClockUnfolding}
use Rattle.clock_source_map.specs.ClockOrigins.{StartedActivity, MadeThing, all_begun, all_things, all_waits}

-- activities, clocks and finishes, and waits
pub record OriginsValue : Type 0 where
  pub begun : List StartedActivity
  pub things : List MadeThing
  pub waits : List (List ℕ)

-- those of this unfolding
pub record AreOriginsOf (u : ClockUnfolding) (o : OriginsValue) : Type 0 where
  pub begun : o.begun ≡ all_begun u
  pub things : o.things ≡ all_things u
  pub waits : o.waits ≡ all_waits u
