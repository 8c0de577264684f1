-- A text has one output with the explanation of its run that avoids deadlock, with one status; and it has one.
use Rattle.std.proofs.Common.{◌≡◌, ℕ, List, inl, refl, subst}
use Rattle.std.specs.Prelude.{if◌then◌else◌}
use Rattle.armus_base.specs.Plans.{Plan}
use Rattle.armus_base.specs.Serial.{IsSerialAvoidedEnd}
use Rattle.armus_base.specs.States.{Step}
use Rattle.armus_base.proofs.OneSerialEnd.{one_serial_end}
use Rattle.world_runs.proofs.SerialExists.{serial_run_ends}
use Rattle.program_io.specs.Texts.{Text}
use Rattle.program_io.specs.Programs.{IsPlanOf}
use Rattle.program_io.proofs.OnePlan.{checked_plan, one_plan}
use Rattle.explain.specs.Avoided.{IsAvoidedOf, IsToldAvoided}
use Rattle.explain.specs.Outputs.{AnswersAvoided}
use Rattle.explain.specs.Refused.{IsRefusedWith}
use Rattle.explain.specs.Requests.{Form}
use Rattle.explain.proofs.Told.{one_told_avoided, told_avoided_exists}
use Rattle.explain.specs.calls.Laws.{EachHasOutput, IsOneOutput}
use Rattle.explain.proofs.EachText.{IsMet, met}
use Rattle.explain.proofs.Fixing.{plan_or_some_fault, refused_has}
use Rattle.explain.proofs.OneOutput.{one_refused}
use Rattle.explain.proofs.Statuses.{one_answer, one_status}

module _ (form : Form) (text : Text) where
  one_avoided : (status other : ℕ) (lines others : Text) → IsAvoidedOf form text status lines → IsAvoidedOf form text other others
      → (status ≡ other) × (lines ≡ others)
  one_avoided status other lines others a b =
      let plans : b.plan ≡ a.plan = one_plan text b.plan a.plan b.plan_is a.plan_is in
      let ended : IsSerialAvoidedEnd a.plan b.steps = subst (λ (q : Plan). IsSerialAvoidedEnd q b.steps) plans b.explains.tells.ended in
      let steps : b.steps ≡ a.steps = one_serial_end a.plan b.steps a.steps (checked_plan text a.plan a.plan_is) ended a.explains.tells.ended in
      let by_plan : IsToldAvoided form text a.plan b.steps others b.stays =
      subst (λ (q : Plan). IsToldAvoided form text q b.steps others b.stays) plans b.explains in
      let by_steps : IsToldAvoided form text a.plan a.steps others b.stays =
      subst (λ (h : List Step). IsToldAvoided form text a.plan h others b.stays) steps by_plan in
      let same = one_told_avoided form text a.plan a.steps lines others a.stays b.stays a.explains by_steps in
      (one_status a.stays b.stays status other a.status_is b.status_is same.1, same.0)

  avoided : (plan : Plan) → IsPlanOf text plan → IsMet form text (IsAvoidedOf form text)
  avoided plan (program, is) =
      let checked = checked_plan text plan (program, is) in
      let (state, final) = serial_run_ends plan checked in
      let (lines, stays, explains) = told_avoided_exists form text program plan final.steps is.reads is.unfolds final.ended in (
        (if stays then 1 else 0),
        lines,
        inl (record {
          plan = plan;
          plan_is = (program, is);
          steps = final.steps;
          stays = stays;
          explains = explains;
          status_is = refl;
        }),
      )

pub one_avoided_output : IsOneOutput AnswersAvoided
one_avoided_output form text =
    one_answer (IsAvoidedOf form text) (IsRefusedWith form.file text) (one_avoided form text) (one_refused form.file text)
    (λ status lines others is refused. plan_or_some_fault text is.plan is.plan_is (refused_has form.file text others refused))

pub each_text_is_avoided : EachHasOutput AnswersAvoided
each_text_is_avoided form text = met form text (IsAvoidedOf form text) (avoided form text)
