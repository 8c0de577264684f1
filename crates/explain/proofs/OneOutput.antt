-- A text has one output, with one status.
use Rattle.std.proofs.Common.{◌≡◌, ℕ, Option, inl, inr, subst}
use mathlib.Core.Path.{fun_ext}
use Rattle.armus_base.specs.Places.{done_by}
use Rattle.armus_base.specs.Plans.{Plan}
use Rattle.armus_base.specs.Runs.{IsMaximal, IsPlainRun, Place, state_after}
use Rattle.armus_base.specs.States.{State}
use Rattle.armus_base.proofs.OneEnd.{one_end}
use Rattle.pl_syntax.proofs.Unique.{text_or_fault}
use Rattle.explain_facts.specs.RunStates.{done_after}
use Rattle.explain_syntax.proofs.SomeStand.{one_refusal as one_syntax_refusal}
use Rattle.explain_check.proofs.OneRefusal.{one_refusal as one_check_refusal}
use Rattle.program_io.specs.Texts.{Text}
use Rattle.program_io.proofs.OnePlan.{checked_plan, one_plan}
use Rattle.explain.specs.Explained.{IsExplanationOf, IsToldAt}
use Rattle.explain.specs.Outputs.{AnswersText}
use Rattle.explain.specs.calls.Laws.{IsOneOutput}
use Rattle.explain.specs.Refused.{IsRefusedWith}
use Rattle.explain.specs.Requests.{Form}
use Rattle.explain.proofs.Told.{one_told}
use Rattle.explain.proofs.Fixing.{plan_or_some_fault, refused_has}
use Rattle.explain.proofs.Statuses.{one_answer, one_status}

pub one_explained : (form : Form) (text : Text) (status other : ℕ) (lines others : Text) → IsExplanationOf form text status lines
    → IsExplanationOf form text other others → (status ≡ other) × (lines ≡ others)
one_explained form text status other lines others a b =
    let plans : b.plan ≡ a.plan = one_plan text b.plan a.plan b.ended.plan_is a.ended.plan_is in
    let run : IsPlainRun a.plan b.steps = subst (λ (plan : Plan). IsPlainRun plan b.steps) plans b.ended.run in
    let maximal : IsMaximal a.plan b.steps = subst (λ (plan : Plan). IsMaximal plan b.steps) plans b.ended.maximal in
    let ends = one_end a.plan b.steps a.steps (checked_plan text a.plan a.ended.plan_is) run a.ended.run maximal a.ended.maximal in
    let of_plan : IsToldAt form text a.plan (state_after b.steps) (done_after b.steps) others b.waits =
    subst (λ (plan : Plan). IsToldAt form text plan (state_after b.steps) (done_after b.steps) others b.waits) plans b.explains in
    let of_counts : IsToldAt form text a.plan (state_after b.steps) (done_after a.steps) others b.waits =
    subst (λ (at : ℕ → Place). IsToldAt form text a.plan (state_after b.steps) (done_by at) others b.waits) (fun_ext ends.0) of_plan in
    let of_state : IsToldAt form text a.plan (state_after a.steps) (done_after a.steps) others b.waits =
    subst (λ (s : State). IsToldAt form text a.plan s (done_after a.steps) others b.waits) ends.1 of_counts in
    let same = one_told form text a.plan (state_after a.steps) (done_after a.steps) lines others a.waits b.waits a.explains of_state in (
      one_status a.waits b.waits status other a.status_is b.status_is same.1,
      same.0,
    )

pub one_refused : (file : Option Text) (text lines others : Text) → IsRefusedWith file text lines → IsRefusedWith file text others → lines ≡ others
one_refused file text lines others (inl (f, a)) (inl (g, b)) = one_syntax_refusal file text f g lines others a b
one_refused file text lines others (inl (f, a)) (inr (q, b)) = absurd (text_or_fault text q f b.reads a.is_stand.found)
one_refused file text lines others (inr (p, a)) (inl (g, b)) = absurd (text_or_fault text p g a.reads b.is_stand.found)
one_refused file text lines others (inr (p, a)) (inr (q, b)) = one_check_refusal file text p q lines others a b

pub one_output : IsOneOutput AnswersText
one_output form text =
    one_answer (IsExplanationOf form text) (IsRefusedWith form.file text) (one_explained form text) (one_refused form.file text)
    (λ status lines others is refused. plan_or_some_fault text is.plan is.ended.plan_is (refused_has form.file text others refused))
