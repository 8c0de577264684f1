-- Avoidance and the run of one input.
use Rattle.std.proofs.Common.{◌≡◌, ◌≢◌, ◌∙◌, ◌<◌, ℕ, Bool, ap, inl, inr, sym, subst, refl, true, false, length}
use Rattle.std.specs.Prelude.{IsSome, None, Option, Some}
use Rattle.armus_base.specs.declared.ending.TaskEnd.{TaskEnd}
use Rattle.armus_base.specs.declared.ending.TaskEnd.TheVariants.{Refused, Unforked}
use Rattle.armus_base.specs.declared.event.Event.{Event}
use Rattle.armus_base.specs.calls.AgreementLaws.{HasEndedRefused, OnlyForkedMembers}
use Rattle.armus_base.specs.Avoidance.{IsAvoidedFinal}
use Rattle.armus_base.specs.CheckedPlans.{IsCheckedPlan}
use Rattle.armus_base.specs.Deadlocks.{NobodyDead}
use Rattle.armus_base.specs.calls.FinalLaws.{IsOfPlan}
use Rattle.armus_base.specs.Finals.{end_by, end_of, final_of}
use Rattle.armus_base.specs.Plans.{Plan}
use Rattle.armus_base.specs.Runs.{IsFinal, state_after}
use Rattle.armus_base.specs.States.{State}
use Rattle.armus_base.proofs.AvoidanceAgrees.{avoided_ends_alike, plain_unrefused, refused_where_dead}
use Rattle.armus_base.proofs.ComesAsFar.{done_stays_done}
use Rattle.armus_base.proofs.DeadByStatuses.{run_is_of_plan}
use Rattle.armus_base.proofs.EndsTell.{published_tells}
use Rattle.armus_base.proofs.RefusedEnds.{refused_ends}
use Rattle.armus_base.proofs.RefusedWasStuck.{refused_was_dead, refused_was_not_done, refused_was_stuck}
use Rattle.adaptive.specs.declared.analysis.Wanted.{Wanted}
use Rattle.report.specs.Reports.{IsReport}
use Rattle.report.proofs.OneReport.{one_report}
use Rattle.command_line.specs.declared.command.Command.TheVariants.{Avoid, Run}
use Rattle.command_line.specs.declared.command.Graph.{Graph}
use Rattle.command_line.specs.declared.command.RunKind.TheVariants.{Plain}
use Rattle.program_io.specs.Texts.{Text}
use Rattle.armus_top.specs.Avoids.{IsAvoidOf, TellsRefused, ended_refused}
use Rattle.armus_top.specs.Commands.{wanted_of}
use Rattle.armus_top.specs.Headline.{Answers}
use Rattle.program_io.specs.Programs.{IsPlanOf}
use Rattle.armus_top.specs.DeadStatus.{TellsDead}
use Rattle.armus_top.specs.Runs.{IsRunOf}
use Rattle.armus_top.proofs.Inputs.{never_both}
use Rattle.program_io.proofs.OnePlan.{checked_plan, one_plan}
use Rattle.report_laws.specs.Avoided.{AvoidTellsAsRun}
use Rattle.report_laws.specs.calls.Avoided.{LeavesNobodyUnforked, WhoGainsAndPays}
use Rattle.report_laws.proofs.OneAnswer.{tells_run}
use Rattle.report_laws.proofs.OneRefused.{one_refused}

refused_is : (x : TaskEnd) → ended_refused x ≡ true → (e : Event) × (x ≡ Refused e)
refused_is (Refused e) is = (e, refl)
refused_is end is = absurd (cc)

-- ---- the final state and the end of an avoided run

module _ (plan : Plan) (checked : IsCheckedPlan plan) (f s : State) (final : IsFinal plan f) (avoided : IsAvoidedFinal plan s) where
  statuses_agree : (a b : ℕ) → TellsRefused plan s a → TellsDead f b → a ≡ b
  statuses_agree a b (inl one) (inl dead) = one.0 ∙ sym dead.0
  statuses_agree a b (inr none) (inr alive) = none.0 ∙ sym alive.0
  statuses_agree a b (inl one) (inr alive) =
      let told = refused_is (end_of s one.1.0) one.1.2 in
      let dead = (refused_where_dead plan f s checked final avoided).0 (one.1.0, (refused_ends plan s one.1.0 checked avoided).1 (one.1.1, told)) in
      absurd (alive.1 dead.0 dead.1)
  statuses_agree a b (inr none) (inl dead) =
      let refused = (refused_where_dead plan f s checked final avoided).1 dead.1 in
      let told = (refused_ends plan s refused.0 checked avoided).0 refused.1 in
      absurd (let no = none.1 refused.0 told.0 in let yes : ended_refused (end_of s refused.0) ≡ true = ap ended_refused told.1.1 in cc)

  -- where the status is not 1, nobody is dead
  nobody : (b : ℕ) → b ≢ 1 → TellsDead f b → NobodyDead f
  nobody b other (inl dead) = absurd (other dead.0)
  nobody b other (inr alive) = alive.1

  bytes_agree : (g : Wanted) (b : ℕ) (p q : Text) → b ≢ 1 → TellsDead f b → IsReport (final_of plan s) g p → IsReport (final_of plan f) g q → p ≡ q
  bytes_agree g b p q other tells r t =
      let same = avoided_ends_alike plan f s checked final avoided (nobody b other tells) in
      one_report (final_of plan f) g p q (subst (λ (x : State). IsReport (final_of plan x) g p) same r) t

-- ---- what the commands tell

told_alike : (input : Text) (workers : ℕ) (g h : Graph) (a b : ℕ) (p q : Text) → IsAvoidOf input workers (wanted_of g) a p
    → (plan : Plan) → IsPlanOf input plan → IsRunOf plan (wanted_of h) b q → (a ≡ b) × (b ≢ 1 → g ≡ h → p ≡ q)
told_alike input workers g h a b p q r plan is run =
    let plans : plan ≡ r.plan = one_plan input plan r.plan is r.plan_is in
    let s : IsRunOf r.plan (wanted_of h) b q = subst (λ x. IsRunOf x (wanted_of h) b q) plans run in
    let checked = checked_plan input r.plan r.plan_is in (
      statuses_agree r.plan checked s.state r.state s.final r.avoided a b r.status_is s.status_is,
      λ other same. bytes_agree r.plan checked s.state r.state s.final r.avoided (wanted_of g) b p q other s.status_is r.report_is
          (subst (λ x. IsReport (final_of r.plan s.state) (wanted_of x) q) (sym same) s.report_is),
    )

answers_agree : (workers : ℕ) (g h : Graph) (kept : Bool) (input : Text) (a b : ℕ) (p q : Text) → Answers (Avoid workers g kept) input a p
    → Answers (Run 1 h Plain) input b q → (a ≡ b) × (b ≢ 1 → g ≡ h → p ≡ q)
answers_agree workers g h kept input a b p q (inl r) (inl (plan, is, run)) = told_alike input workers g h a b p q r plan is run
answers_agree workers g h kept input a b p q (inl r) (inr (three, refused)) = absurd (never_both (Avoid workers g kept) input q p a refused r)
answers_agree workers g h kept input a b p q (inr (three, refused)) (inl s) = absurd (never_both (Run 1 h Plain) input p q b refused s)
answers_agree workers g h kept input a b p q (inr (three, r)) (inr (too, s)) =
    (three ∙ sym too, λ other same. one_refused (Run 1 h Plain) input p q r s)

pub avoid_tells_as_run : AvoidTellsAsRun
avoid_tells_as_run workers g h kept c input a b p q is r s = answers_agree workers g h kept input a b p q r (tells_run h c input b q is s)

-- ---- who gains, and who pays

-- a task that has not ended as unforked, and is not refused, is forked
forked_by : (b : Bool) → end_by b None None ≢ Unforked → b ≡ true
forked_by true other = refl
forked_by false other = absurd (other refl)

module _ (plan : Plan) (checked : IsCheckedPlan plan) (f : State) (final : IsFinal plan f) (all : LeavesNobodyUnforked plan f) where
  forked_after : (t : ℕ) → t < length plan.parents → (o : Option Event) → (state_after final.steps).published t ≡ o → (state_after final.steps).forked t ≡ true
  forked_after t below (Some e) is = (published_tells plan checked final.steps final.run.0 t e is).0
  forked_after t below None is =
      let unrefused : (state_after final.steps).refused t ≡ None = plain_unrefused plan checked final.steps final.run t in
      let ended : end_of (state_after final.steps) t ≡ end_by ((state_after final.steps).forked t) None None =
      ap (λ o. end_by ((state_after final.steps).forked t) o ((state_after final.steps).refused t)) is
      ∙ ap (λ r. end_by ((state_after final.steps).forked t) None r) unrefused in
      forked_by ((state_after final.steps).forked t)
      (λ e. all t below (ap (λ (x : State). end_of x t) (sym final.there) ∙ ended ∙ e))

  all_forked : (t : ℕ) → t < length plan.parents → f.forked t ≡ true
  all_forked t below = subst (λ (x : State). x.forked t ≡ true) final.there (forked_after t below ((state_after final.steps).published t) refl)

  only_forked : OnlyForkedMembers f
  only_forked t p n member =
      let of_plan : IsOfPlan plan f = subst (λ (x : State). IsOfPlan plan x) final.there (run_is_of_plan plan final.steps checked final.run.0) in
      all_forked t (of_plan.member t p n member)

pub who_gains_and_pays : WhoGainsAndPays
who_gains_and_pays input workers g h a b p q r run t below =
    let checked = checked_plan input r.plan r.plan_is in
    let refused : HasEndedRefused r.state t → IsSome (r.state.refused t) = λ told. (refused_ends r.plan r.state t checked r.avoided).1 (below, told) in
    record {
      gains = done_stays_done r.plan run.state r.state t checked run.final r.avoided;
      pays = λ told. refused_was_not_done r.plan run.state r.state t checked run.final r.avoided (refused told);
      stuck = λ told. refused_was_stuck r.plan run.state r.state t checked run.final r.avoided (refused told);
      dead = λ told all.
          refused_was_dead r.plan run.state r.state t checked run.final r.avoided (only_forked r.plan checked run.state run.final all) (refused told)
          (all_forked r.plan checked run.state run.final all t below);
    }
