-- Live tasks of a recorded run.
use Rattle.std.specs.Prelude.{◌≡◌, ◌<◌, ℕ, List, drop, length}
use Rattle.armus_base.specs.declared.ids.TaskId.{TaskId}
use Rattle.armus_base.specs.declared.op.Op.{Op}
use Rattle.armus_base.specs.CheckedPlans.{IsCheckedPlan}
use Rattle.armus_base.specs.Plans.{Plan, code_of}

-- the ops that a task has not done, and those that it had not done when its last turn began
pub record Live : Type 0 where
  pub left : List Op
  pub behind : List Op

-- Task t is one of the plan. Of its code these ops are left behind the first ones, so many; when its last turn began those were, behind the first ones, so
-- many.
pub record IsLive (plan : Plan) (t : TaskId) (left : List Op) (op : ℕ) (behind : List Op) (turn_from : ℕ) : Type 0 where
  pub checked : IsCheckedPlan plan
  pub task : t.0 < length plan.parents
  pub left_is : left ≡ drop op (code_of plan t.0)
  pub behind_is : behind ≡ drop turn_from (code_of plan t.0)
