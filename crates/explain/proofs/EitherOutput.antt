-- A text of either language has one output, with one status.
use Rattle.std.proofs.Common.{◌≡◌, ℕ, Bool, true, false}
use Rattle.program_io.specs.Texts.{Text}
use Rattle.explain.specs.calls.Laws.{EachHasOutput, IsOneOutput}
use Rattle.explain.specs.Languages.{is_of_clocks}
use Rattle.explain.specs.Outputs.{AnswersEither, AnswersTextIn}
use Rattle.explain.specs.Requests.{Form}
use Rattle.explain.proofs.ClockOutputs.{each_clock_text_is_met, one_clock_output}
use Rattle.explain.proofs.EachText.{each_text_is_met}
use Rattle.explain.proofs.OneOutput.{one_output}

one_in : (of_clocks : Bool) (form : Form) (text : Text) (status other : ℕ) (lines others : Text) → AnswersTextIn of_clocks form text status lines
    → AnswersTextIn of_clocks form text other others → (status ≡ other) × (lines ≡ others)
one_in true form text = one_clock_output form text
one_in false form text = one_output form text

pub one_either_output : IsOneOutput AnswersEither
one_either_output form text = one_in (is_of_clocks form.file text) form text

each_in : (of_clocks : Bool) (form : Form) (text : Text) → (status : ℕ) × (lines : Text) × AnswersTextIn of_clocks form text status lines
each_in true form text = each_clock_text_is_met form text
each_in false form text = each_text_is_met form text

pub each_text_has_output : EachHasOutput AnswersEither
each_text_has_output form text = each_in (is_of_clocks form.file text) form text
