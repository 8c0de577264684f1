-- The report of the end of a plain run is that of the one state in which every maximal plain run ends.
use Rattle.std.proofs.Common.{ℕ, inl, inr, refl, sym, subst, Bool, true, false, if◌then◌else◌}
use Rattle.std.specs.Prelude.{◌↔◌, Err, IfOk, IsTrue, Ok, Result}
use Rattle.armus_base.specs.declared.errors.NoMemory.{NoMemory}
use Rattle.armus_base.specs.declared.ending.Final.{Final}
use Rattle.armus_base.specs.CheckedPlans.{IsCheckedPlan}
use Rattle.armus_base.specs.Deadlocks.{IsDeadBy, IsDeadIn}
use Rattle.armus_base.specs.Finals.{final_of, is_awaited}
use Rattle.armus_base.specs.calls.FinalLaws.{IsOfPlan}
use Rattle.armus_base.specs.Plans.{Plan}
use Rattle.armus_base.specs.States.{State}
use Rattle.armus_base.specs.calls.Statuses.{IsInOrder}
use Rattle.armus_base.proofs.DeadByStatuses.{dead_by_final, run_is_of_plan}
use Rattle.armus_base.proofs.StatusesAre.{statuses_are}
use Rattle.adaptive.specs.declared.analysis.Wanted.{Wanted}
use Rattle.report.specs.Reports.{IsReport, IsSomeDead}
use Rattle.world_runs.specs.calls.PlainRuns.{IsPlainEnd}
use Rattle.program_io.specs.Texts.{Text}
use Rattle.armus_top.specs.declared.output.Output.{Output}
use Rattle.armus_top.specs.inside.Answers.{ReportsEnd}
use Rattle.program_io.specs.calls.ExitNumbers.{number_of_status}
use Rattle.armus_top.specs.DeadStatus.{TellsDead}
use Rattle.armus_top.specs.Runs.{IsRunOf}

pub plain_end_in_order : (plan : Plan) (end : Final) → IsCheckedPlan plan → IsPlainEnd plan end → IsInOrder end.blocked
plain_end_in_order plan end checked is =
    subst (λ (e : Final). IsInOrder e.blocked) (sym is.is_it) (statuses_are plan is.state (is_awaited plan is.state) checked).in_order

pub tells : (state : State) (final : Final) (dead : Bool) → ((t : ℕ) → IsDeadBy final.blocked t ↔ IsDeadIn state t) → (IsTrue dead ↔ IsSomeDead final.blocked)
    → TellsDead state (if dead then 1 else 0)
tells state final true same is = let some = is.0 refl in inl (refl, (some.0, (same some.0).0 some.1))
tells state final false same is = inr (refl, λ t dead. let yes = is.1 (t, (same t).1 dead) in absurd (cc))

pub run_of : (plan : Plan) (g : Wanted) (end : Final) (dead : Bool) (text : Text) → IsCheckedPlan plan → IsPlainEnd plan end
    → (IsTrue dead ↔ IsSomeDead end.blocked) → IsReport end g text → IsRunOf plan g (if dead then 1 else 0) text
run_of plan g end dead text checked is is_dead reports =
    let state = is.state in
    let of_plan : IsOfPlan plan state = subst (λ (s : State). IsOfPlan plan s) is.final.there (run_is_of_plan plan is.final.steps checked is.final.run.0) in
    record {
      state = state;
      final = is.final;
      every = is.every;
      status_is = tells state (final_of plan state) dead (λ t. dead_by_final plan state t of_plan)
          (subst (λ (e : Final). IsTrue dead ↔ IsSomeDead e.blocked) is.is_it is_dead);
      report_is = subst (λ (e : Final). IsReport e g text) is.is_it reports;
    }

-- an output that reports the end of a plain run is that of the run
pub run_by_report : (plan : Plan) (wanted : Wanted) (end : Final) (o : Output) → IsCheckedPlan plan → IsPlainEnd plan end → ReportsEnd end wanted o
    → IsRunOf plan wanted (number_of_status o.status) o.text
run_by_report plan wanted end o checked is (dead, status, same, reports) =
    subst (λ n. IsRunOf plan wanted n o.text) (sym status) (run_of plan wanted end dead o.text checked is same reports)

-- the same, unless memory was wanting
pub reports_run : (plan : Plan) (wanted : Wanted) (end : Final) (r : Result Output NoMemory) → IsCheckedPlan plan → IsPlainEnd plan end → IfOk r (ReportsEnd end wanted)
    → IfOk r (λ o. IsRunOf plan wanted (number_of_status o.status) o.text)
reports_run plan wanted end (Ok o) checked is reports = run_by_report plan wanted end o checked is reports
reports_run plan wanted end (Err e) checked is reports = tt
