use Rattle.std.proofs.Common.{◌≡◌, ◌++◌, map}
use Rattle.board_runs.specs.calls.Rounds.{fresh}
use Rattle.board_runs.proofs.board_tasks.add_children.Given as goal

abbrev pub invariant-loop-seat : goal.invariant-loop-seat
invariant-loop-seat l = (l.task ≡ l.initial.task) × (l.children.items ≡ l.initial.children.items ++ map fresh l.yielded)
