-- What is proved of the origins of a clock program.
use Rattle.std.specs.Prelude.{◌≡◌, ℕ, true, List, [], ◌∷◌, count_by, length, map, slice_get, take, Ok, Option, Some}
use Rattle.armus_base.specs.declared.op.Op.{Op}
use Rattle.armus_base.specs.Plans.{Plan, code_of}
use Rattle.clock_syntax.specs.Grammar.{IsClockText}
use Rattle.clock_syntax.specs.Trees.{ClockTree, advance, clock, clock_count, drop, resume}
use Rattle.clock_semantics.specs.Moves.{Move, advances, begins, drops, ends, opens, resumes, starts, stops}
use Rattle.clock_semantics.specs.Unfolding.{ClockComing, ClockPart, ClockUnfolding, a_close, a_finish, a_plain, an_async, clock_unfolded, plan_of_moves}
use Rattle.clock_source_map.specs.ClockOffsets.{clock_offsets}
use Rattle.clock_source_map.specs.ClockOps.{all_op_origins, is_await, moving_comings}
use Rattle.clock_source_map.specs.ClockOrigins.{StartedActivity, all_begun, all_things, all_waits, comings_by}

-- the text of a program has an offset for each statement
abbrev pub StatementsHaveOffsets : Type 0
StatementsHaveOffsets = (text : List ℕ) (p : ClockTree) → IsClockText text p → length (clock_offsets text p) ≡ clock_count p

-- ---- ops

-- the kind of move that is made at a part of a statement
abbrev pub IsMoveAt : ClockPart → Move → Type 0
IsMoveAt (a_plain (clock x)) (opens p) = Unit {0}
IsMoveAt (a_plain (advance x)) (advances p) = Unit {0}
IsMoveAt (a_plain (resume x)) (resumes p) = Unit {0}
IsMoveAt (a_plain (drop x)) (drops p) = Unit {0}
IsMoveAt (an_async xs body) (starts c ps f) = Unit {0}
IsMoveAt a_finish (begins f) = Unit {0}
IsMoveAt a_close (ends f) = Unit {0}
IsMoveAt part m = ⊥

-- these moves are one for each of these comings, of its kind, and then a stop
abbrev pub AreMovesAt : List ClockComing → List Move → Type 0
AreMovesAt [] (stops ps ∷ []) = Unit {0}
AreMovesAt (m ∷ ms) (move ∷ moves) = IsMoveAt m.part move × AreMovesAt ms moves
AreMovesAt ms moves = ⊥

-- the moves of each activity are one for each coming at which a move is made, of its kind, and then its stop
abbrev pub MovesComeFromStatements : Type 0
MovesComeFromStatements =
    (p : ClockTree) (u : ClockUnfolding) (t : ℕ) (b : StartedActivity) (moves : List Move) → clock_unfolded p ≡ Ok u → slice_get (all_begun u) t ≡ Some b →
    slice_get u.moves t ≡ Some moves → AreMovesAt (moving_comings (comings_by b)) moves

-- each activity has an origin for each op of its code
abbrev pub OpsHaveStatements : Type 0
OpsHaveStatements =
    (p : ClockTree) (u : ClockUnfolding) → clock_unfolded p ≡ Ok u → map length (all_op_origins u) ≡ map length (plan_of_moves u).codes

-- ---- waits

-- of these ops, with these origins, each that waits comes from a statement: that of the wait behind as many of these as there are ops before it that wait
abbrev pub ComeFromWaits : List Op → List (Option ℕ) → List ℕ → Type 0
ComeFromWaits ops origins waits =
    (k : ℕ) (op : Op) → slice_get ops k ≡ Some op → is_await op ≡ true →
    (n : ℕ) × (slice_get waits (count_by is_await (take k ops)) ≡ Some n) × (slice_get origins k ≡ Some (Some n))

-- each op that waits comes from the statement at which its activity is said to wait there
abbrev pub AwaitsComeFromWaits : Type 0
AwaitsComeFromWaits =
    (p : ClockTree) (u : ClockUnfolding) (t : ℕ) (origins : List (Option ℕ)) (waits : List ℕ) → clock_unfolded p ≡ Ok u →
    slice_get (all_op_origins u) t ≡ Some origins → slice_get (all_waits u) t ≡ Some waits → ComeFromWaits (code_of (plan_of_moves u) t) origins waits

-- ---- tasks and phasers

-- the activities are as many as the plan's tasks, the clocks and finishes as many as its phasers, and each activity has its list of waits
pub record AreOriginsOfAll (u : ClockUnfolding) (plan : Plan) : Type 0 where
  pub begun : length (all_begun u) ≡ length plan.parents
  pub things : length (all_things u) ≡ length plan.makers
  pub waits : length (all_waits u) ≡ length plan.parents

-- each task, and each phaser, has an origin
abbrev pub TasksAndPhasersHaveStatements : Type 0
TasksAndPhasersHaveStatements = (p : ClockTree) (u : ClockUnfolding) → clock_unfolded p ≡ Ok u → AreOriginsOfAll u (plan_of_moves u)
