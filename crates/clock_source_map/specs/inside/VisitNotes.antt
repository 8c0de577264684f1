-- What is noted of the comings of one activity.
use Rattle.std.specs.Prelude.{ℕ, List, ◌++◌}
use Rattle.clock_semantics.specs.Unfolding.{ClockComing}
use Rattle.clock_source_map.specs.ClockOrigins.{StartedActivity, MadeThing, made_thing_at, things_in, wait_at, waits_in}
use Rattle.clock_source_map.specs.calls.Begun.{activity_started_at, activities_started_in}

-- activities, clocks and finishes, and waits
pub record NotesValue : Type 0 where
  pub begun : List StartedActivity
  pub things : List MadeThing
  pub waits : List ℕ

-- with what one coming does
abbrev pub noted : ClockComing → NotesValue → NotesValue
noted m k = record {
  begun = k.begun ++ activity_started_at m.statement m.part;
  things = k.things ++ made_thing_at m.statement m.part;
  waits = k.waits ++ wait_at m.statement m.part;
}

-- with what these do
abbrev pub noted_all : List ClockComing → NotesValue → NotesValue
noted_all ms k = record { begun = k.begun ++ activities_started_in ms; things = k.things ++ things_in ms; waits = k.waits ++ waits_in ms }
