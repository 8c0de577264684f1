-- The report of the end of an avoided run, and the status that tells whether a task is refused.
use Rattle.std.proofs.Common.{◌≡◌, ◌∙◌, ◌++◌, [], ◌∷◌, ℕ, List, length, inl, inr, refl, sym, subst, ap, Bool, true, false, if◌then◌else◌}
use Rattle.std.proofs.lemmas.Bool.{cases_eq}
use Rattle.std.specs.List.{list_any}
use Rattle.armus_base.specs.declared.ending.Final.{Final}
use Rattle.armus_base.specs.Avoidance.{IsAvoidedFinal, IsAvoidedRun}
use Rattle.armus_base.specs.CheckedPlans.{IsCheckedPlan}
use Rattle.armus_base.specs.Finals.{end_of, final_of, is_awaited}
use Rattle.armus_base.specs.Plans.{Plan}
use Rattle.armus_base.specs.Serial.{IsSerialAvoidedFinal}
use Rattle.armus_base.specs.States.{State, Step}
use Rattle.armus_base.proofs.NobodyIsDead.{nobody_is_dead}
use Rattle.armus_base.proofs.SerialFinalIsAvoided.{serial_final_is_avoided}
use Rattle.armus_base.specs.calls.Statuses.{IsInOrder}
use Rattle.armus_base.proofs.StatusesAre.{statuses_are}
use Rattle.adaptive.specs.declared.analysis.Wanted.{Wanted}
use Rattle.report.specs.Reports.{IsReport}
use Rattle.world_runs.specs.calls.AvoidedRuns.{IsAvoidedEnd, IsSerialEnd}
use Rattle.program_io.specs.Texts.{Text}
use Rattle.program_io.specs.Programs.{IsPlanOf}
use Rattle.armus_top.specs.Avoids.{IsAvoidOf, IsNeverDead, TellsRefused, ended_refused}
use Rattle.program_io.proofs.OnePlan.{checked_plan}
use Rattle.program_io.proofs.SomeBelow.{none_below, some_below}

pub avoided_end_in_order : (plan : Plan) (end : Final) → IsCheckedPlan plan → IsAvoidedEnd plan end → IsInOrder end.blocked
avoided_end_in_order plan end checked is =
    subst (λ (e : Final). IsInOrder e.blocked) (sym is.is_it) (statuses_are plan is.state (is_awaited plan is.state) checked).in_order

tells : (plan : Plan) (state : State) (some : Bool) → list_any ended_refused (final_of plan state).ends ≡ some → TellsRefused plan state (if some then 1 else 0)
tells plan state true e = inl (refl, some_below ended_refused (end_of state) (length plan.parents) e)
tells plan state false e = inr (refl, none_below ended_refused (end_of state) (length plan.parents) e)

-- the first steps of an avoided run are an avoided run
first_steps : (plan : Plan) (more before : List Step) → IsAvoidedRun plan (more ++ before) → IsAvoidedRun plan before
first_steps plan [] before run = run
first_steps plan (e ∷ more) before run = first_steps plan more before run.0

-- in an avoided run nobody is ever dead
pub never_dead : (plan : Plan) → IsCheckedPlan plan → (steps : List Step) → IsAvoidedRun plan steps → IsNeverDead steps
never_dead plan checked steps run more before same = nobody_is_dead plan before checked (first_steps plan more before (subst (IsAvoidedRun plan) same run))

module _ (input : Text) (plan : Plan) (g : Wanted) (end : Final) (some : Bool) (text : Text) (plan_is : IsPlanOf input plan) (some_is : some ≡ list_any ended_refused end.ends)
    (reports : IsReport end g text) where
  checked : IsCheckedPlan plan
  checked = checked_plan input plan plan_is

  told : (workers : ℕ) (state : State) → end ≡ final_of plan state → IsAvoidedFinal plan state → (workers ≡ 1 → IsSerialAvoidedFinal plan state)
      → IsAvoidOf input workers g (if some then 1 else 0) text
  told workers state is avoided serial = record {
    plan = plan;
    plan_is = plan_is;
    state = state;
    avoided = avoided;
    never = never_dead plan checked avoided.steps avoided.run;
    serial = serial;
    status_is = tells plan state some (sym (some_is ∙ ap (λ (e : Final). list_any ended_refused e.ends) is));
    report_is = subst (λ (e : Final). IsReport e g text) is reports;
  }

  -- with one worker the serial run has ended so
  pub avoid_of : (workers : ℕ) → IsAvoidedEnd plan end → (workers ≡ 1 → IsSerialEnd plan end) → IsAvoidOf input workers g (if some then 1 else 0) text
  avoid_of workers avoided serial = elim (cases_eq workers 1) [
    | inl one ↦ let s = serial one in told workers s.state s.is_it (serial_final_is_avoided plan s.state checked s.final) (λ _. s.final)
    | inr several ↦ told workers avoided.state avoided.is_it avoided.final (λ one. absurd (several one))
  ]
