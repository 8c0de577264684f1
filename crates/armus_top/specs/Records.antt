-- What `record` writes.
use Rattle.std.specs.Prelude.{ℕ, List}
use Rattle.armus_base.specs.declared.ids.TaskId.{TaskId}
use Rattle.armus_base.specs.Plans.{Plan}
use Rattle.armus_base.specs.Runs.{IsMaximal, state_after}
use Rattle.armus_base.specs.States.{Step}
use Rattle.locked_world.specs.Journals.{IsJournalOf}
use Rattle.schedule.specs.Records.{IsRecord}
use Rattle.program_io.specs.Texts.{Text}
use Rattle.program_io.specs.Programs.{IsPlanOf}
use Rattle.armus_top.specs.DeadStatus.{TellsDead}

-- the text with the journal of a maximal plain run of its plan, and the status that tells whether a task is dead in the state in which the run ends
pub record IsRecordOf (input : Text) (status : ℕ) (text : Text) : Type 0 where
  pub plan : Plan
  pub plan_is : IsPlanOf input plan
  pub journal : List TaskId
  pub steps : List Step
  pub run : IsJournalOf plan journal steps
  pub maximal : IsMaximal plan steps
  pub status_is : TellsDead (state_after steps) status
  pub record_is : IsRecord input journal text
