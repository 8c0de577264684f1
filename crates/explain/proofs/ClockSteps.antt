-- A clock text has one output with the steps of its run, and the output fixes its status.
use Rattle.std.proofs.Common.{◌≡◌, ◌∙◌, ◌++◌, ℕ, List, ap, inl, inr, refl, subst, sym, true}
use Rattle.std.specs.Prelude.{Ok, if◌then◌else◌}
use Rattle.armus_base.specs.Runs.{IsMaximal, state_after}
use Rattle.armus_base.specs.States.{Step}
use Rattle.clock_syntax.specs.Grammar.{IsClockText}
use Rattle.clock_syntax.specs.Trees.{ClockTree}
use Rattle.clock_semantics.specs.Unfolding.{ClockUnfolding, clock_unfolded, plan_of_moves}
use Rattle.explain_facts.specs.RunStates.{done_after}
use Rattle.explain_steps.specs.SerialRuns.{IsSerialRun}
use Rattle.explain_steps.specs.calls.SerialRuns.{IsWholeSerialRun}
use Rattle.explain_steps.proofs.OneSerialRun.{one_serial_run}
use Rattle.explain_steps.proofs.SerialExists.{serial_run_exists}
use Rattle.explain_steps.proofs.SerialIsPlain.{serial_is_plain}
use Rattle.explain_steps.specs.ShownClockSteps.{AreClockShown}
use Rattle.explain_steps.proofs.OneClockShowing.{clock_showing_exists, one_clock_showing}
use Rattle.program_io.specs.Texts.{Text}
use Rattle.explain.specs.ClockExplained.{IsClockExplanationOf, IsClockRefusedWith, IsClockStatusOf}
use Rattle.explain.specs.ClockStepped.{AreClockStepsOf}
use Rattle.explain.specs.Outputs.{AnswersStepsIn}
use Rattle.explain.proofs.ClockEnds.{checked_moves, clock_run, end_alike}
use Rattle.explain.proofs.ClockOutputs.{IsClockMet, clock_explained_or_refused, clock_met, one_clock_explained, one_clock_refused, status_of_clocks}
use Rattle.explain.specs.Requests.{Form}
use Rattle.explain.proofs.Statuses.{one_answer}
use Rattle.explain.proofs.Told.{told_clock_exists}

-- the steps end with an explanation
clock_steps_end : (form : Form) (text : Text) (status : ℕ) (lines : Text) → (is : AreClockStepsOf form text status lines)
    → IsClockExplanationOf form text status is.explanation
clock_steps_end form text status lines is = record {
  program = is.program;
  unfolded = is.unfolded;
  steps = is.steps;
  ended = is.ended;
  waits = is.waits;
  explains = is.explains;
  status_is = is.status_is;
}

-- ---- one output

one_clock_stepped : (form : Form) (text : Text) (status other : ℕ) (lines others : Text) → AreClockStepsOf form text status lines
    → AreClockStepsOf form text other others → (status ≡ other) × (lines ≡ others)
one_clock_stepped form text status other lines others a b =
    let alike = end_alike text b.program a.program b.unfolded a.unfolded b.steps a.steps b.ended a.ended in
    let serial : IsSerialRun (plan_of_moves a.unfolded) b.steps = subst (λ u. IsSerialRun (plan_of_moves u) b.steps) alike.unfoldings b.serial in
    let maximal : IsMaximal (plan_of_moves a.unfolded) b.steps = subst (λ u. IsMaximal (plan_of_moves u) b.steps) alike.unfoldings b.ended.maximal in
    let whole : IsWholeSerialRun (plan_of_moves a.unfolded) b.steps = record { serial = serial; maximal = maximal } in
    let own : IsWholeSerialRun (plan_of_moves a.unfolded) a.steps = record { serial = a.serial; maximal = a.ended.maximal } in
    let steps : b.steps ≡ a.steps =
    one_serial_run (plan_of_moves a.unfolded) b.steps a.steps (checked_moves a.program a.unfolded a.ended.unfolds) whole own in
    let of_program : AreClockShown text a.program b.unfolded (plan_of_moves b.unfolded) b.steps b.shown =
    subst (λ (p : ClockTree). AreClockShown text p b.unfolded (plan_of_moves b.unfolded) b.steps b.shown) alike.programs b.are_shown in
    let of_plan : AreClockShown text a.program a.unfolded (plan_of_moves a.unfolded) b.steps b.shown =
    subst (λ (u : ClockUnfolding). AreClockShown text a.program u (plan_of_moves u) b.steps b.shown) alike.unfoldings of_program in
    let of_steps : AreClockShown text a.program a.unfolded (plan_of_moves a.unfolded) a.steps b.shown =
    subst (λ (h : List Step). AreClockShown text a.program a.unfolded (plan_of_moves a.unfolded) h b.shown) steps of_plan in
    let shown : b.shown ≡ a.shown = one_clock_showing text a.program a.unfolded (plan_of_moves a.unfolded) a.steps b.shown a.shown of_steps a.are_shown in
    let same = one_clock_explained form text status other a.explanation b.explanation (clock_steps_end form text status lines a)
    (clock_steps_end form text other others b) in (
      same.0,
      a.lines_are
          ∙ ap (λ (s : Text). s ++ a.explanation) (sym shown)
          ∙ ap (λ (x : Text). b.shown ++ x) same.1
          ∙ sym b.lines_are,
    )

pub one_clock_steps : (form : Form) (text : Text) (status other : ℕ) (lines others : Text) → AnswersStepsIn true form text status lines
    → AnswersStepsIn true form text other others → (status ≡ other) × (lines ≡ others)
one_clock_steps form text =
    one_answer (AreClockStepsOf form text) (IsClockRefusedWith form.file text) (one_clock_stepped form text) (one_clock_refused form.file text)
    (λ status lines others is refused. clock_explained_or_refused form text status is.explanation others (clock_steps_end form text status lines is) refused)

-- ---- each text

module _ (form : Form) (text : Text) where
  stepped : (p : ClockTree) (u : ClockUnfolding) → IsClockText text p → clock_unfolded p ≡ Ok u → IsClockMet form text (AreClockStepsOf form text)
  stepped p u reads is =
      let (steps, whole) = serial_run_exists (plan_of_moves u) (checked_moves p u is) in
      let run = serial_is_plain (plan_of_moves u) steps whole.serial in
      let (shown, are_shown) = clock_showing_exists text p u (plan_of_moves u) steps in
      let (lines, waits, explains) = told_clock_exists form text p u (plan_of_moves u) (state_after steps) (done_after steps) reads is refl in (
        (if waits then 1 else 0),
        shown ++ lines,
        inl (record {
          program = p;
          unfolded = u;
          steps = steps;
          ended = clock_run text p u steps reads is run whole.maximal;
          serial = whole.serial;
          shown = shown;
          are_shown = are_shown;
          explanation = lines;
          waits = waits;
          explains = explains;
          status_is = refl;
          lines_are = refl;
        }),
      )

  pub each_clock_text_has_steps : (status : ℕ) × (lines : Text) × AnswersStepsIn true form text status lines
  each_clock_text_has_steps = clock_met form text (AreClockStepsOf form text) stepped

  -- ---- the status

  pub status_of_clock_steps : (number : ℕ) (lines : Text) → AnswersStepsIn true form text number lines → IsClockStatusOf text number
  status_of_clock_steps number lines (inl is) = status_of_clocks form text number is.explanation (inl (clock_steps_end form text number lines is))
  status_of_clock_steps number lines (inr refused) = status_of_clocks form text number lines (inr refused)
