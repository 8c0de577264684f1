-- The cursors of the tasks.
use Rattle.std.specs.Prelude.{◌≡◌, ◌≢◌, ℕ, ◌<◌, List, [], Option, Some, None, drop, length, slice_get, slice_index_or, slice_set}
use Rattle.armus_base.specs.declared.op.Op.{Op}
use Rattle.armus_base.specs.Plans.{Plan, code_of}
use Rattle.pl_core.specs.declared.task.TaskRecord.{TaskRecord}

-- the index of the next op of a task, and 0 without one
abbrev pub op_from : Option TaskRecord → ℕ
op_from (Some task) = task.op
op_from None = 0

-- the index of the next op of task t
abbrev pub op_index_of : List TaskRecord → ℕ → ℕ
op_index_of tasks t = op_from (slice_get tasks t)

-- the cursors of the tasks below n: the ops of each from its next one on
pub record AreAt (plan : Plan) (n : ℕ) (tasks : List TaskRecord) (cursors : List (List Op)) : Type 0 where
  pub one_each : length cursors ≡ n
  pub each : (t : ℕ) → t < n → slice_get cursors t ≡ Some (drop (op_index_of tasks t) (code_of plan t))

-- the cursors when the one at this place has gone on by an op
abbrev pub moved_on : List (List Op) → ℕ → List (List Op)
moved_on cursors at = slice_set cursors at (drop 1 (slice_index_or cursors at []))

-- no task but t has another next op
abbrev pub KeepsOtherCursors : ℕ → List TaskRecord → List TaskRecord → Type 0
KeepsOtherCursors t old new = (u : ℕ) → u ≢ t → op_index_of new u ≡ op_index_of old u
