use Rattle.std.proofs.Common.{◌≡◌}
use Rattle.board_runs.specs.calls.TaskSeats.{own_number}
use Rattle.task_runner.specs.inside.Pooled.{KeepsWhatItHas}
use Rattle.task_runner.proofs.pool_worker.PoolWorker.turn.Given as goal

abbrev pub invariant-loop : goal.invariant-loop
invariant-loop g l = KeepsWhatItHas l.initial.self l.self × (own_number l.task ≡ own_number l.initial.task)
