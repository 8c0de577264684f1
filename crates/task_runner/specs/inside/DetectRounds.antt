-- A run on a board that detects deadlock, between its rounds.
use Rattle.std.specs.Prelude.{◌≡◌}
use Rattle.armus_base.specs.Plans.{Plan}
use Rattle.board.specs.declared.mode.Mode.TheVariants.{Detect}
use Rattle.board.specs.calls.Seats.{Frame}
use Rattle.board_runs.specs.calls.TaskSeats.{Tasks}
use Rattle.task_runner.specs.inside.BoardRuns.{IsOnBoard}
use Rattle.task_runner.specs.inside.LiveReporters.{Telling, IsWatching}

-- the tasks are those of a run on this board of the plan, the board detects deadlock, and the live_reporter watches it
pub record IsUnderWay (board : Frame) (plan : Plan) (tasks : Tasks) (live_reporter : Telling) : Type 0 where
  pub on_board : IsOnBoard board plan tasks
  pub detects : board.mode ≡ Detect
  pub watches : IsWatching board live_reporter
