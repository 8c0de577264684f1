-- The first place in an ascending list of tasks that is not below a task.
use Rattle.std.specs.Prelude.{◌<◌, ◌≤◌, ℕ, List, length, slice_index_or}
use Rattle.armus_base.specs.declared.ids.TaskId.{TaskId}

-- the tasks ahead of this place are below the task, and those from it on are not
pub record IsLowerBound (ts : List TaskId) (t : TaskId) (at : ℕ) : Type 0 where
  pub inside : at ≤ length ts
  pub ahead : (k : ℕ) (u : TaskId) → k < at → (slice_index_or ts k u).0 < t.0
  pub from : (k : ℕ) (u : TaskId) → at ≤ k → k < length ts → t.0 ≤ (slice_index_or ts k u).0
