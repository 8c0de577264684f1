-- From which statements of a clock text its activities, its clocks and its finishes come, and at which statements an activity waits.
-- Statements are told by their numbers, from 1 in the order in which they stand in the text.
use Rattle.std.specs.Prelude.{ℕ, List, [], ◌∷◌, map, Option, Some, None}
use Rattle.std.specs.List.{flat_map}
use Rattle.clock_syntax.specs.Trees.{ClockTree, advance, clock}
use Rattle.clock_semantics.specs.Unfolding.{ClockComing, ClockPart, ClockStart, ClockUnfolding, a_close, a_finish, a_plain, comings_of}

-- an activity as it is started: the number of the first statement of its body, and the body
pub record StartedActivity : Type 0 where
  pub first : ℕ
  pub body : ClockTree

-- a clock or a finish as it is made: the statement, and the name that it is given, which a finish has not
pub record MadeThing : Type 0 where
  pub statement : ℕ
  pub name : Option (List ℕ)

-- ---- what a coming does

-- the clock or finish that is made there
abbrev pub made_thing_at : ℕ → ClockPart → List MadeThing
made_thing_at n (a_plain (clock x)) = record { statement = n; name = Some x } ∷ []
made_thing_at n a_finish = record { statement = n; name = None } ∷ []
made_thing_at n part = []

-- statement n, where one waits there: an advance, or the end of a finish
abbrev pub wait_at : ℕ → ClockPart → List ℕ
wait_at n (a_plain (advance x)) = n ∷ []
wait_at n a_close = n ∷ []
wait_at n part = []

-- ---- origins

-- what an activity comes to that is started so
abbrev pub comings_by : StartedActivity → List ClockComing
comings_by b = comings_of b.first b.body

-- the clocks and finishes that are made there, in order
abbrev pub things_in : List ClockComing → List MadeThing
things_in ms = flat_map (λ (m : ClockComing). made_thing_at m.statement m.part) ms

-- the statements at which one waits there, in order
abbrev pub waits_in : List ClockComing → List ℕ
waits_in ms = flat_map (λ (m : ClockComing). wait_at m.statement m.part) ms

-- an activity of an unfolding
abbrev pub begun_by : ClockStart → StartedActivity
begun_by start = record { first = start.first; body = start.body }

-- the activities of an unfolding, in order of number
abbrev pub all_begun : ClockUnfolding → List StartedActivity
all_begun u = map begun_by u.starts

-- its clocks and finishes, in order of number
abbrev pub all_things : ClockUnfolding → List MadeThing
all_things u = flat_map (λ b. things_in (comings_by b)) (all_begun u)

-- the statements at which its activities wait, for each activity in the order of its waits
abbrev pub all_waits : ClockUnfolding → List (List ℕ)
all_waits u = map (λ b. waits_in (comings_by b)) (all_begun u)
