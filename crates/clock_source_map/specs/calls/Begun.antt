-- Which activities are started at comings.
use Rattle.std.specs.Prelude.{ℕ, ◌+◌, List, [], ◌∷◌}
use Rattle.std.specs.List.{flat_map}
use Rattle.clock_semantics.specs.Unfolding.{ClockComing, ClockPart, an_async}
use Rattle.clock_source_map.specs.ClockOrigins.{StartedActivity}

-- the activity that is started where statement n is come to
abbrev pub activity_started_at : ℕ → ClockPart → List StartedActivity
activity_started_at n (an_async xs body) = record { first = n + 1; body = body } ∷ []
activity_started_at n part = []

-- the activities that are started there, in order
abbrev pub activities_started_in : List ClockComing → List StartedActivity
activities_started_in ms = flat_map (λ (m : ClockComing). activity_started_at m.statement m.part) ms
