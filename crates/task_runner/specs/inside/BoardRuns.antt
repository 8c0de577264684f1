-- A run on a board, between its rounds.
use Rattle.std.specs.Prelude.{◌≡◌, ℕ, ◌<◌, ◌+◌, ◌-◌, ◌/◌, ◌^◌, Bool, true, false, if◌then◌else◌, length}
use Rattle.armus_base.specs.Plans.{Plan}
use Rattle.board.specs.calls.Seats.{Frame}
use Rattle.board.specs.calls.Views.{avoids}
use Rattle.board_runs.specs.declared.board_tasks.Rounded.{Rounded}
use Rattle.board_runs.specs.calls.TaskSeats.{AreTasksOf, Tasks, left_to}
use Rattle.board_runs.specs.calls.Rounds.{HasRound, HaveEnded}

-- the board is of this plan, and the tasks are those of a run on it
pub record IsOnBoard (board : Frame) (plan : Plan) (tasks : Tasks) : Type 0 where
  pub of_plan : board.plan ≡ plan
  pub board_tasks : AreTasksOf board tasks

-- how many words the awaits of a run may load on a board, before the run leaves it
abbrev pub many_loads : ℕ
many_loads = 2 ^ 24

-- How many loads the tasks of a worker may make in a round, before turns are cut short: any number where there is a pass beside the rounds. Where deadlock is
-- avoided a decision may load a word for each phaser beside each await word, and these alone are counted.
abbrev pub bound_on : Frame → Bool → ℕ
bound_on board true = 2 ^ 64 - 1
bound_on board false = if avoids board.mode then many_loads / (length board.plan.makers + 1) else many_loads

-- All these tasks have ended the turns that they took in the last round on their board, cut short only where they made more loads in it than that, or had
-- ended before it.
pub record HaveAllEnded (board : Frame) (with_pass : Bool) (tasks : Tasks) : Type 0 where
  pub before : Tasks
  pub were : AreTasksOf board before
  pub ends : HaveEnded (bound_on board with_pass) before tasks

-- The tasks after a round, with a pass beside it or with none: where an event happened in it less is left to them, and where none did nobody was forked; and
-- where nobody was forked all have ended their turns.
pub record HasHadRound (board : Frame) (plan : Plan) (with_pass : Bool) (before now : Tasks) (made : Rounded) : Type 0 where
  pub on_board : IsOnBoard board plan now
  pub round : HasRound (bound_on board with_pass) board before now made
  pub further : 0 < made.actions → left_to board.plan now < left_to board.plan before
  pub quiet : made.actions ≡ 0 → made.forked ≡ false
  pub ends : made.forked ≡ false → HaveAllEnded board with_pass now
