-- Each text has an output with the steps of its run.
use Rattle.std.proofs.Common.{◌++◌, ℕ, Bool, true, false, inl, refl}
use Rattle.std.specs.Prelude.{if◌then◌else◌}
use Rattle.armus_base.specs.Plans.{Plan}
use Rattle.explain_steps.proofs.SerialExists.{serial_run_exists}
use Rattle.explain_steps.proofs.SerialIsPlain.{serial_is_plain}
use Rattle.explain_steps.proofs.ShowingExists.{showing_exists}
use Rattle.program_io.specs.Texts.{Text}
use Rattle.program_io.specs.Programs.{IsPlanOf}
use Rattle.program_io.proofs.OnePlan.{checked_plan}
use Rattle.explain.specs.calls.Laws.{EachHasOutput}
use Rattle.explain.specs.Languages.{is_of_clocks}
use Rattle.explain.specs.Outputs.{AnswersStepsIn, AnswersStepsOf}
use Rattle.explain.proofs.ClockSteps.{each_clock_text_has_steps}
use Rattle.explain.specs.Stepped.{AreStepsOf}
use Rattle.explain.proofs.EachText.{IsMet, met}
use Rattle.explain.proofs.Told.{told_exists}
use Rattle.explain.specs.Requests.{Form}

stepped : (form : Form) (text : Text) (plan : Plan) → IsPlanOf text plan → IsMet form text (AreStepsOf form text)
stepped form text plan (program, checked) =
    let (steps, whole) = serial_run_exists plan (checked_plan text plan (program, checked)) in
    let run = serial_is_plain plan steps whole.serial in
    let (shown, are_shown) = showing_exists text program plan steps checked.reads in
    let (lines, waits, explains) = told_exists form text program plan steps checked.reads checked.unfolds run.0 whole.maximal in (
      (if waits then 1 else 0),
      shown ++ lines,
      inl (record {
        plan = plan;
        steps = steps;
        ended = record { plan_is = (program, checked); run = run; maximal = whole.maximal };
        serial = whole.serial;
        program = program;
        shown = shown;
        are_shown = are_shown;
        explanation = lines;
        waits = waits;
        explains = explains;
        status_is = refl;
        lines_are = refl;
      }),
    )

each_in : (of_clocks : Bool) (form : Form) (text : Text) → (status : ℕ) × (lines : Text) × AnswersStepsIn of_clocks form text status lines
each_in true form text = each_clock_text_has_steps form text
each_in false form text = met form text (AreStepsOf form text) (stepped form text)

pub each_text_has_steps : EachHasOutput AnswersStepsOf
each_text_has_steps form text = each_in (is_of_clocks form.file text) form text
