-- Recorded runs of a plan.
use Rattle.std.specs.Prelude.{◌≡◌, List}
use Rattle.armus_base.specs.declared.ending.Final.{Final}
use Rattle.armus_base.specs.declared.ids.TaskId.{TaskId}
use Rattle.armus_base.specs.Finals.{final_of}
use Rattle.armus_base.specs.Plans.{Plan}
use Rattle.armus_base.specs.Runs.{IsMaximal, state_after}
use Rattle.armus_base.specs.States.{Step}
use Rattle.locked_world.specs.Journals.{IsJournalOf}
use Rattle.world_runs.specs.calls.PlainRuns.{IsPlainEnd}

-- these tasks are the journal of a maximal plain run of the plan, and the value is that of the state in which it ends, as every maximal plain run does
pub record IsRecordedRun (plan : Plan) (value : Final) (tasks : List TaskId) : Type 0 where
  pub steps : List Step
  pub journal : IsJournalOf plan tasks steps
  pub maximal : IsMaximal plan steps
  pub is_it : value ≡ final_of plan (state_after steps)
  pub end : IsPlainEnd plan value
