-- A text has one output with the steps of its run, with one status.
use Rattle.std.proofs.Common.{◌≡◌, ◌∙◌, ◌++◌, ℕ, Bool, true, false, List, ap, subst, sym}
use Rattle.armus_base.specs.Plans.{Plan}
use Rattle.armus_base.specs.Runs.{IsMaximal}
use Rattle.armus_base.specs.States.{Step}
use Rattle.explain_steps.specs.SerialRuns.{IsSerialRun}
use Rattle.explain_steps.specs.calls.SerialRuns.{IsWholeSerialRun}
use Rattle.explain_steps.specs.ShownSteps.{AreShown}
use Rattle.explain_steps.proofs.OneSerialRun.{one_serial_run}
use Rattle.explain_steps.proofs.OneShowing.{one_showing}
use Rattle.program_io.specs.Texts.{Text}
use Rattle.program_io.proofs.OnePlan.{checked_plan, one_plan}
use Rattle.explain.specs.calls.Laws.{IsOneOutput}
use Rattle.explain.specs.Languages.{is_of_clocks}
use Rattle.explain.specs.Outputs.{AnswersStepsIn, AnswersStepsOf}
use Rattle.explain.specs.Refused.{IsRefusedWith}
use Rattle.explain.specs.Stepped.{AreStepsOf}
use Rattle.explain.specs.Requests.{Form}
use Rattle.explain.proofs.ClockSteps.{one_clock_steps}
use Rattle.explain.proofs.Fixing.{plan_or_some_fault, refused_has, steps_explained}
use Rattle.explain.proofs.OneOutput.{one_explained, one_refused}
use Rattle.explain.proofs.Statuses.{one_answer}

one_stepped : (form : Form) (text : Text) (status other : ℕ) (lines others : Text) → AreStepsOf form text status lines → AreStepsOf form text other others
    → (status ≡ other) × (lines ≡ others)
one_stepped form text status other lines others a b =
    let plans : b.plan ≡ a.plan = one_plan text b.plan a.plan b.ended.plan_is a.ended.plan_is in
    let serial : IsSerialRun a.plan b.steps = subst (λ (q : Plan). IsSerialRun q b.steps) plans b.serial in
    let maximal : IsMaximal a.plan b.steps = subst (λ (q : Plan). IsMaximal q b.steps) plans b.ended.maximal in
    let whole : IsWholeSerialRun a.plan b.steps = record { serial = serial; maximal = maximal } in
    let own : IsWholeSerialRun a.plan a.steps = record { serial = a.serial; maximal = a.ended.maximal } in
    let steps : b.steps ≡ a.steps = one_serial_run a.plan b.steps a.steps (checked_plan text a.plan a.ended.plan_is) whole own in
    let by_plan : AreShown text b.program a.plan b.steps b.shown = subst (λ (q : Plan). AreShown text b.program q b.steps b.shown) plans b.are_shown in
    let by_steps : AreShown text b.program a.plan a.steps b.shown = subst (λ (h : List Step). AreShown text b.program a.plan h b.shown) steps by_plan in
    let shown : b.shown ≡ a.shown = one_showing text b.program a.program a.plan a.steps b.shown a.shown by_steps a.are_shown in
    let same = one_explained form text status other a.explanation b.explanation (steps_explained form text status lines a)
    (steps_explained form text other others b) in (
      same.0,
      a.lines_are
          ∙ ap (λ (s : Text). s ++ a.explanation) (sym shown)
          ∙ ap (λ (x : Text). b.shown ++ x) same.1
          ∙ sym b.lines_are,
    )

one_in : (of_clocks : Bool) (form : Form) (text : Text) (status other : ℕ) (lines others : Text) → AnswersStepsIn of_clocks form text status lines
    → AnswersStepsIn of_clocks form text other others → (status ≡ other) × (lines ≡ others)
one_in true form text = one_clock_steps form text
one_in false form text =
    one_answer (AreStepsOf form text) (IsRefusedWith form.file text) (one_stepped form text) (one_refused form.file text)
    (λ status lines others is refused. plan_or_some_fault text is.plan is.ended.plan_is (refused_has form.file text others refused))

pub one_steps_output : IsOneOutput AnswersStepsOf
one_steps_output form text = one_in (is_of_clocks form.file text) form text
