-- What a world keeps of each task.
use Rattle.std.specs.Prelude.{ℕ, ◌+◌, ◌<◌, ◌≤◌, List, length, take}
use Rattle.armus_base.specs.declared.op.Op.{Op}
use Rattle.armus_base.specs.Plans.{actions_of}

-- how many actions the first k ops are
abbrev pub actions_before : List Op → ℕ → ℕ
actions_before ops k = length (actions_of (take k ops))

-- after k of its actions a task is at op n of its code: it has made all actions of the ops before, and not all of this one
pub record IsAtOp (ops : List Op) (k n : ℕ) : Type 0 where
  pub within : n ≤ length ops
  pub from : actions_before ops n ≤ k
  pub below : n < length ops → k < actions_before ops (n + 1)
