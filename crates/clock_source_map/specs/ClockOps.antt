-- From which statement of a clock text each op of the code of each activity comes. Each coming makes one move or none, and the ops of a move stand together.
use Rattle.std.specs.Prelude.{ℕ, Bool, true, false, List, [], ◌∷◌, ◌++◌, length, map, replicate, Option, Some, None}
use Rattle.std.specs.List.{filter, zip}
use Rattle.armus_base.specs.declared.op.Op.{Op}
use Rattle.armus_base.specs.declared.op.Op.TheVariants.{Await}
use Rattle.clock_syntax.specs.Trees.{skip}
use Rattle.clock_semantics.specs.Moves.{Move, ActivityStanding, after_move, no_standing, ops_of}
use Rattle.clock_semantics.specs.Unfolding.{ClockComing, ClockPart, ClockUnfolding, a_loop, a_plain, a_turn}
use Rattle.clock_source_map.specs.ClockOrigins.{StartedActivity, all_begun, comings_by}

-- the op waits
abbrev pub is_await : Op → Bool
is_await (Await p off) = true
is_await op = false

-- a move is made there: a skip, a loop and a turn of a loop make none
abbrev pub makes_move : ClockPart → Bool
makes_move (a_plain skip) = false
makes_move a_loop = false
makes_move a_turn = false
makes_move part = true

-- the comings at which a move is made
abbrev pub moving_comings : List ClockComing → List ClockComing
moving_comings ms = filter (λ (m : ClockComing). makes_move m.part) ms

-- from which statement each move of an activity comes that is started so: from that of a coming, and its stop at the end from none
abbrev pub move_origins : StartedActivity → List (Option ℕ)
move_origins b = map (λ (m : ClockComing). Some m.statement) (moving_comings (comings_by b)) ++ None ∷ []

-- from which statement each op of these moves comes, each move beside its own statement, where the activity stands so before them
abbrev pub op_origins_from : ActivityStanding → List (Option ℕ × Move) → List (Option ℕ)
op_origins_from s [] = []
op_origins_from s (m ∷ ms) = replicate (length (ops_of s m.1)) m.0 ++ op_origins_from (after_move m.1 s) ms

-- from which statement each op of an activity's code comes, which is started so and makes these moves
abbrev pub op_origins_of : StartedActivity → List Move → List (Option ℕ)
op_origins_of b moves = op_origins_from no_standing (zip (move_origins b) moves)

-- the same for each activity of an unfolding, in order of number
abbrev pub all_op_origins : ClockUnfolding → List (List (Option ℕ))
all_op_origins u = map (λ (a : StartedActivity × List Move). op_origins_of a.0 a.1) (zip (all_begun u) u.moves)
