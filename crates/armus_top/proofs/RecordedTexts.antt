-- What is recorded is a text with the journal of a maximal plain run of its plan.
use Rattle.std.proofs.Common.{◌≡◌, List, subst, Bool, if◌then◌else◌}
use Rattle.std.specs.Prelude.{◌↔◌, IsTrue}
use Rattle.armus_base.specs.declared.ending.Final.{Final}
use Rattle.armus_base.specs.declared.ids.TaskId.{TaskId}
use Rattle.armus_base.specs.CheckedPlans.{IsCheckedPlan}
use Rattle.armus_base.specs.calls.FinalLaws.{IsOfPlan}
use Rattle.armus_base.specs.Finals.{final_of}
use Rattle.armus_base.specs.Plans.{Plan}
use Rattle.armus_base.specs.Runs.{state_after}
use Rattle.armus_base.proofs.DeadByStatuses.{dead_by_final, run_is_of_plan}
use Rattle.report.specs.Reports.{IsSomeDead}
use Rattle.schedule.specs.Records.{IsRecord}
use Rattle.world_runs.specs.calls.RecordedRuns.{IsRecordedRun}
use Rattle.program_io.specs.Texts.{Text}
use Rattle.program_io.specs.Programs.{IsPlanOf}
use Rattle.armus_top.specs.Records.{IsRecordOf}
use Rattle.armus_top.proofs.Reporting.{tells}

pub record_of : (input : Text) (plan : Plan) (end : Final) (journal shown : List TaskId) (dead : Bool) (text : Text) → IsCheckedPlan plan → IsRecordedRun plan end journal
    → shown ≡ journal → (IsTrue dead ↔ IsSomeDead end.blocked) → IsRecord input shown text
    → IsPlanOf input plan → IsRecordOf input (if dead then 1 else 0) text
record_of input plan end journal shown dead text checked run shown_is is_dead recorded plan_is =
    let state = state_after run.steps in
    let of_plan : IsOfPlan plan state = run_is_of_plan plan run.steps checked run.journal.run.0 in
    record {
      plan = plan;
      plan_is = plan_is;
      journal = journal;
      steps = run.steps;
      run = run.journal;
      maximal = run.maximal;
      status_is = tells state (final_of plan state) dead (λ t. dead_by_final plan state t of_plan)
          (subst (λ (e : Final). IsTrue dead ↔ IsSomeDead e.blocked) run.is_it is_dead);
      record_is = subst (λ j. IsRecord input j text) shown_is recorded;
    }
