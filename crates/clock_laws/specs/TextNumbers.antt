-- The numbers that an unfolding gives to the activities, clocks and finishes of a program that are named by where they come from.
use Rattle.std.specs.Prelude.{ℕ, ◌<◌, List, [], ◌∷◌, ◌++◌, Contains, length, slice_index_or}
use Rattle.clock_semantics.specs.Moves.{Move, begins, made_by, opens, started_by}
use Rattle.clock_semantics.specs.Unfolding.{ClockUnfolding}
use Rattle.clock_laws.specs.TextMachine.{Activity, Made}

-- the moves of activity t
abbrev pub moves_by : ClockUnfolding → ℕ → List Move
moves_by u t = slice_index_or u.moves t []

-- The number of an activity: the first one has number 0; the one that a starts after k others has the number that a starts behind k others in its moves.
abbrev pub number_in : ClockUnfolding → Activity → ℕ
number_in u [] = 0
number_in u (k ∷ a) = slice_index_or (started_by (moves_by u (number_in u a))) k 0

-- the number of a clock or finish: the one that its maker makes behind so many others in its moves
abbrev pub made_in : ClockUnfolding → Made → ℕ
made_in u p = slice_index_or (made_by (moves_by u (number_in u p.maker))) p.before 0

-- there is such an activity
abbrev pub IsActivityIn : ClockUnfolding → Activity → Type 0
IsActivityIn u [] = Unit {0}
IsActivityIn u (k ∷ a) = IsActivityIn u a × k < length (started_by (moves_by u (number_in u a)))

-- there is such a clock or finish
abbrev pub IsMadeIn : ClockUnfolding → Made → Type 0
IsMadeIn u p = IsActivityIn u p.maker × p.before < length (made_by (moves_by u (number_in u p.maker)))

-- there is such a clock: its maker opens it
abbrev pub IsClockIn : ClockUnfolding → Made → Type 0
IsClockIn u p = IsMadeIn u p × Contains (moves_by u (number_in u p.maker)) (opens (made_in u p))

-- there is such a finish: its maker begins it
abbrev pub IsFinishIn : ClockUnfolding → Made → Type 0
IsFinishIn u f = IsMadeIn u f × Contains (moves_by u (number_in u f.maker)) (begins (made_in u f))
