-- The dead tasks of a list of statuses, as a list.
use Rattle.std.specs.Prelude.{◌<◌, ◌↔◌, List, Contains, AllPairs}
use Rattle.armus_base.specs.declared.ids.TaskId.{TaskId}
use Rattle.armus_base.specs.declared.status.Status.{Status}
use Rattle.armus_base.specs.Deadlocks.{IsDeadBy}

-- these are the tasks that are dead by the statuses, in order of number, each once
pub record IsDeadList (list : List Status) (dead : List TaskId) : Type 0 where
  pub ascends : AllPairs (λ t u. t.0 < u.0) dead
  pub exact : (t : TaskId) → Contains dead t ↔ IsDeadBy list t.0
