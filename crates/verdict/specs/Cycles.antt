-- The cycle of a report, and the test of a cycle.
use Rattle.std.specs.Prelude.{ℕ, ◌≤◌, List}
use Rattle.armus_base.specs.Deadlocks.{IsDeadBy}
use Rattle.armus_base.specs.Graphs.{WaitsFor}
use Rattle.armus_base.specs.declared.ids.TaskId.{TaskId}
use Rattle.armus_base.specs.declared.status.Status.{Status}

-- u is the least dead task that impedes the event that t awaits
pub record IsDeadStep (list : List Status) (t u : TaskId) : Type 0 where
  pub waits : WaitsFor list t u
  pub dead : IsDeadBy list u.0
  pub least : (v : TaskId) → WaitsFor list t v → IsDeadBy list v.0 → u.0 ≤ v.0
