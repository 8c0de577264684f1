-- Each plan has a whole output of `run` and of `avoid`.
use Rattle.std.proofs.Common.{ℕ, [], ◌++◌, List, refl, arith}
use Rattle.armus_base.specs.declared.status.Status.{Status}
use Rattle.armus_base.specs.CheckedPlans.{IsCheckedPlan}
use Rattle.armus_base.specs.calls.FinalLaws.{IsOfPlan}
use Rattle.armus_base.specs.Finals.{final_of}
use Rattle.armus_base.specs.Plans.{Plan}
use Rattle.armus_base.specs.Runs.{state_after}
use Rattle.armus_base.proofs.DeadByStatuses.{dead_by_final, run_is_of_plan}
use Rattle.armus_base.proofs.MaximalExists.{maximal_exists}
use Rattle.armus_base.proofs.OneEnd.{one_end}
use Rattle.armus_base.proofs.SerialFinalIsAvoided.{serial_final_is_avoided}
use Rattle.armus_base.proofs.Elements.{nothing_in_nil}
use Rattle.adaptive.specs.declared.analysis.Wanted.{Wanted}
use Rattle.report.specs.Live.{live_text}
use Rattle.report.specs.NamedDead.{AreSomeDead}
use Rattle.report.proofs.DeadExtend.{some_dead_extend}
use Rattle.report.proofs.ReportExists.{report_exists}
use Rattle.world_runs.proofs.SerialExists.{serial_run_ends}
use Rattle.command_line.specs.declared.command.RunKind.{RunKind}
use Rattle.command_line.specs.declared.command.RunKind.TheVariants.{Plain, Live, Sites}
use Rattle.program_io.specs.Texts.{Text}
use Rattle.armus_top.specs.Avoids.{IsAvoidOf}
use Rattle.program_io.specs.Programs.{IsPlanOf}
use Rattle.armus_top.specs.Runs.{IsLiveRunOf, IsRunOf, IsRunOutput}
use Rattle.program_io.proofs.OnePlan.{checked_plan}
use Rattle.armus_top.proofs.AvoidedReports.{never_dead}
use Rattle.armus_top.proofs.WholeOutputs.{status_by, status_refused}

nobody_named : {blocked : List Status} → AreSomeDead blocked []
nobody_named = record { once = λ i j d l m e. absurd (omega arith); dead = λ d m. absurd (nothing_in_nil d m) }

module _ (plan : Plan) (checked : IsCheckedPlan plan) (g : Wanted) where
  pub run_met : (status : ℕ) × (text : Text) × IsRunOf plan g status text
  run_met =
      let (h, run, maximal) = maximal_exists plan checked in
      let state = state_after h in
      let (text, reports) = report_exists (final_of plan state) g in
      let of_plan : IsOfPlan plan state = run_is_of_plan plan h checked run.0 in
      let (status, tells) = status_by state (final_of plan state) reports.cycle_text (λ t. dead_by_final plan state t of_plan) reports.cycle in (
        status,
        text,
        record {
          state = state;
          final = record { steps = h; run = run; maximal = maximal; there = refl };
          every = λ other is ends. (one_end plan other h checked is run ends maximal).1;
          status_is = tells;
          report_is = reports;
        },
      )

  live_met : (status : ℕ) × (text : Text) × IsLiveRunOf plan g status text
  live_met =
      let (status, report, run) = run_met in
      let (named, are) = some_dead_extend (final_of plan run.state).blocked [] nobody_named in
      (status, live_text named ++ report, record { report = report; run = run; named = named; named_are = are; output_is = refl })

  -- each kind of run has an output
  pub output_met : (kind : RunKind) → (status : ℕ) × (text : Text) × IsRunOutput kind plan g status text
  output_met Plain = run_met
  output_met Live = live_met
  output_met (Sites sites) = run_met

module _ (input : Text) (plan : Plan) (plan_is : IsPlanOf input plan) where
  checked : IsCheckedPlan plan
  checked = checked_plan input plan plan_is

  pub avoid_met : (workers : ℕ) (g : Wanted) → (status : ℕ) × (text : Text) × IsAvoidOf input workers g status text
  avoid_met workers g =
      let (state, final) = serial_run_ends plan checked in
      let avoided = serial_final_is_avoided plan state checked final in
      let (text, reports) = report_exists (final_of plan state) g in
      let (status, tells) = status_refused plan state in (
        status,
        text,
        record {
          plan = plan;
          plan_is = plan_is;
          state = state;
          avoided = avoided;
          never = never_dead plan checked avoided.steps avoided.run;
          serial = λ _. final;
          status_is = tells;
          report_is = reports;
        },
      )
