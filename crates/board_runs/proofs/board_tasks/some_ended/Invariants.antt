use Rattle.std.proofs.Common.{take}
use Rattle.std.specs.Prelude.{All}
use Rattle.board_runs.specs.calls.Turns.{ActsNoMore, Working}
use Rattle.board_runs.proofs.board_tasks.some_ended.Given as goal

abbrev pub invariant-loop-task : goal.invariant-loop-task
invariant-loop-task l = All (λ (task : Working). ActsNoMore task.seat → ⊥) (take l.task-index l.tasks)
