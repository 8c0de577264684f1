use Rattle.std.proofs.Common.{◌≡◌, ◌⊎◌, ℕ, Some, true, length, take}
use Rattle.std.specs.Prelude.{slice_get}
use Rattle.task_runner.specs.inside.Pooled.{ContainsTask}
use Rattle.task_runner.proofs.pool_end.mark.Given as goal

abbrev pub invariant-loop-task : goal.invariant-loop-task
invariant-loop-task l =
    (length l.marks.items ≡ length l.initial.marks.items)
    × ((t : ℕ) → slice_get l.marks.items t ≡ Some true → ContainsTask (take l.task-index l.tasks) t ⊎ (slice_get l.initial.marks.items t ≡ Some true))
