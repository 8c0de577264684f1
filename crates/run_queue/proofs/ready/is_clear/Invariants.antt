use Rattle.std.proofs.Common.{ℕ, ◌<◌, ◌≤◌}
use Rattle.run_queue.specs.inside.ReadyTasks.{IsSet}
use Rattle.run_queue.proofs.ready.is_clear.Given as goal

abbrev pub invariant-loop-at : goal.invariant-loop-at
invariant-loop-at l = (t : ℕ) → l.first ≤ t → t < l.at → IsSet l.flags t → ⊥
