use Rattle.std.proofs.Common.{◌≡◌, take}
use Rattle.std.specs.List.{flat_map}
use Rattle.board_runs.specs.calls.Rounds.{fresh_of}
use Rattle.board_runs.proofs.Emptying.{IsEmptiedUpTo}
use Rattle.board_runs.proofs.board_tasks.new_tasks.Given as goal

abbrev pub invariant-loop-task : goal.invariant-loop-task
invariant-loop-task l = IsEmptiedUpTo l.task-index l.initial.tasks l.tasks × (l.children.items ≡ flat_map fresh_of (take l.task-index l.initial.tasks))
