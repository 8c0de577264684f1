-- The steps of a text end with its explanation.
use Rattle.std.proofs.Common.{◌∙◌, ◌++◌, ℕ, ap}
use Rattle.program_io.specs.Texts.{Text}
use Rattle.explain.specs.ClockExplained.{IsClockExplanationOf}
use Rattle.explain.specs.ClockStepped.{AreClockStepsOf}
use Rattle.explain.specs.Requests.{Form}
use Rattle.explain.proofs.ClockOutputs.{one_clock_explained}
use Rattle.explain.proofs.Fixing.{steps_explained}
use Rattle.explain.proofs.OneOutput.{one_explained}
use Rattle.report_laws.specs.ExplainedSteps.{StepsEndAsExplained}
use Rattle.report_laws.specs.calls.ExplainedSteps.{ClockStepsEndAsExplained}

pub steps_end_as_explained : StepsEndAsExplained
steps_end_as_explained form text a b p q s explained =
    let same = one_explained form text a b s.explanation q (steps_explained form text a p s) explained in
    (same.0, s.lines_are ∙ ap (λ (x : Text). s.shown ++ x) same.1)

-- behind the steps of a clock text stands an explanation
end_is_explained : (form : Form) (text : Text) (status : ℕ) (lines : Text) (s : AreClockStepsOf form text status lines)
    → IsClockExplanationOf form text status s.explanation
end_is_explained form text status lines s =
    record {
      program = s.program;
      unfolded = s.unfolded;
      steps = s.steps;
      ended = s.ended;
      waits = s.waits;
      explains = s.explains;
      status_is = s.status_is;
    }

pub clock_steps_end_as_explained : ClockStepsEndAsExplained
clock_steps_end_as_explained form text a b p q s explained =
    let same = one_clock_explained form text a b s.explanation q (end_is_explained form text a p s) explained in
    (same.0, s.lines_are ∙ ap (λ (x : Text). s.shown ++ x) same.1)
