-- What a world keeps.
use Rattle.std.specs.Prelude.{◌≡◌, ℕ, List, Some, length, slice_get}
use Rattle.armus_base.specs.Plans.{Plan}
use Rattle.armus_base.specs.Runs.{IsReachable}
use Rattle.armus_base.specs.CheckedPlans.{IsCheckedPlan}
use Rattle.pl_core.specs.declared.task.TaskRecord.{TaskRecord}
use Rattle.pl_core.specs.declared.phase_table.MemberTable.{MemberTable}
use Rattle.pl_core.specs.inside.Enrolling.{HasCells}
use Rattle.pl_core.specs.inside.PhaseTables.{phases_in}
use Rattle.pl_core.specs.inside.KeptTasks.{IsKeptOf}
use Rattle.pl_core.specs.calls.Worlds.{places_of, state_of}
use Rattle.pl_core.specs.calls.Tables.{world_from}

-- what is kept is what the state says, and a legal run leads to it
pub record KeepsState (plan : Plan) (tasks : List TaskRecord) (table : MemberTable) : Type 0 where
  pub checked : IsCheckedPlan plan
  pub reachable : IsReachable plan (places_of (world_from plan tasks))
  pub one_each : length tasks ≡ length plan.parents
  pub cells : HasCells plan table
  pub columns : table.phasers ≡ length plan.makers
  pub phases : phases_in table ≡ (state_of (world_from plan tasks)).phases
  pub each : (t : ℕ) (task : TaskRecord) → slice_get tasks t ≡ Some task → IsKeptOf plan (state_of (world_from plan tasks)) t task
