-- How contracts see the tasks of a run.
use Rattle.board_runs.specs.declared.board_tasks.BoardTasks.TheInside.{Inside}
use Rattle.board_runs.specs.calls.TaskSeats.{Tasks}

-- those that live, and those that have ended
abbrev pub live_and_ended : Inside → Tasks
live_and_ended board_tasks = record { live = board_tasks.live.items; ended = board_tasks.ended.items }
