-- From an explanation, steps or a refusal to the output that is wanted.
use Rattle.std.proofs.Common.{◌≡◌, ℕ, Bool, true, false, Some, inl, inr, subst, sym}
use Rattle.std.specs.Prelude.{IfOk, Result}
use Rattle.std.proofs.lemmas.Result.{IfOk-weaker}
use Rattle.armus_base.specs.declared.errors.NoMemory.{NoMemory}
use Rattle.explain_syntax.specs.LengthRefusals.{length_refusal}
use Rattle.program_io.specs.Texts.{Text}
use Rattle.program_io.specs.Passages.{GaveTooMuch, HasInput, IsSound, Passage}
use Rattle.program_io.specs.declared.text_limit.TheConstants.{MAX_TEXT_BYTES}
use Rattle.program_io.specs.calls.ExitNumbers.{number_of_status}
use Rattle.explain.specs.declared.answer.Answer.{Answer}
use Rattle.explain.specs.declared.answer.WantedOutput.{WantedOutput}
use Rattle.explain.specs.declared.answer.WantedOutput.TheVariants.{Avoided, Clocks, Explanation, Steps}
use Rattle.explain.specs.declared.answer.ClockWanted as clocks
use Rattle.explain.specs.declared.answer.ClockWanted.TheVariants as c
use Rattle.explain.specs.declared.answer.PlWanted as pl
use Rattle.explain.specs.declared.answer.PlWanted.TheVariants as p
use Rattle.explain.specs.ClockExplained.{AnswersClock, IsClockExplanationOf, IsClockRefusedWith}
use Rattle.explain.specs.ClockStepped.{AreClockStepsOf}
use Rattle.explain.specs.Languages.{is_of_clocks}
use Rattle.explain.specs.Outputs.{AnswersAvoided, AnswersEither, AnswersStepsIn, AnswersStepsOf, AnswersTextIn}
use Rattle.explain.specs.Explained.{IsExplanationOf}
use Rattle.explain.specs.Avoided.{IsAvoidedOf}
use Rattle.explain.specs.Stepped.{AreStepsOf}
use Rattle.explain.specs.Requests.{Form}
use Rattle.explain.specs.inside.Ending.{AnswersSource, IsAnswerTo, IsClockAnswerTo, IsClockRefusalOf, IsPlAnswerTo, IsRefusalOf, IsWrittenAnswerTo, IsWrittenOf}
use Rattle.program_io.specs.Legible.{IsWritten, legible}

module _ (wanted : pl.PlWanted) (form : Form) (text : Text) where
  refused_so : (own : pl.PlWanted) (a : Answer) → IsRefusalOf form.file text a → IsPlAnswerTo own form text a
  refused_so p.Explanation a is = inr is
  refused_so own a is = inr is

  -- a refusal is an output, whatever is wanted of a text of PL
  pub refusal_answers : (r : Result Answer NoMemory) → IfOk r (IsRefusalOf form.file text) → IfOk r (IsPlAnswerTo wanted form text)
  refusal_answers r is = IfOk-weaker r (IsRefusalOf form.file text) (IsPlAnswerTo wanted form text) (refused_so wanted) is

  pub explanation_answers : (r : Result Answer NoMemory) → wanted ≡ p.Explanation
      → IfOk r (λ a. IsExplanationOf form text (number_of_status a.status) a.lines) → IfOk r (IsPlAnswerTo wanted form text)
  explanation_answers r wanted_is is = rw wanted_is (IfOk-weaker r _ (IsPlAnswerTo p.Explanation form text) (λ a told. inl told) is)

  pub steps_answer : (r : Result Answer NoMemory) → wanted ≡ p.Steps → IfOk r (λ a. AreStepsOf form text (number_of_status a.status) a.lines)
      → IfOk r (IsPlAnswerTo wanted form text)
  steps_answer r wanted_is is = rw wanted_is (IfOk-weaker r _ (IsPlAnswerTo p.Steps form text) (λ a told. inl told) is)

  pub avoided_answers : (r : Result Answer NoMemory) → wanted ≡ p.Avoided → IfOk r (λ a. IsAvoidedOf form text (number_of_status a.status) a.lines)
      → IfOk r (IsPlAnswerTo wanted form text)
  avoided_answers r wanted_is is = rw wanted_is (IfOk-weaker r _ (IsPlAnswerTo p.Avoided form text) (λ a told. inl told) is)

module _ (wanted : clocks.ClockWanted) (form : Form) (text : Text) where
  clock_refused_so : (own : clocks.ClockWanted) (a : Answer) → number_of_status a.status ≡ 3 → IsClockRefusedWith form.file text a.lines → IsClockAnswerTo own form text a
  clock_refused_so c.Explanation a three is = inr (three, is)
  clock_refused_so own a three is = inr (three, is)

  -- a refusal is an output, whatever is wanted of a clock text
  pub clock_refusal_answers : (a : Answer) → number_of_status a.status ≡ 3 → IsClockRefusedWith form.file text a.lines → IsClockAnswerTo wanted form text a
  clock_refusal_answers a three is = clock_refused_so wanted a three is

  -- and so is what refuses it, if memory suffices
  pub clock_refusals_answer : (r : Result Answer NoMemory) → IfOk r (IsClockRefusalOf form.file text) → IfOk r (IsClockAnswerTo wanted form text)
  clock_refusals_answer r is = IfOk-weaker r _ (IsClockAnswerTo wanted form text) (λ a refusal. clock_refused_so wanted a refusal.0 refusal.1) is

  pub clock_explanation_answers : (r : Result Answer NoMemory) → wanted ≡ c.Explanation
      → IfOk r (λ a. IsClockExplanationOf form text (number_of_status a.status) a.lines) → IfOk r (IsClockAnswerTo wanted form text)
  clock_explanation_answers r wanted_is is = rw wanted_is (IfOk-weaker r _ (IsClockAnswerTo c.Explanation form text) (λ a told. inl told) is)

  pub clock_steps_answer : (r : Result Answer NoMemory) → wanted ≡ c.Steps → IfOk r (λ a. AreClockStepsOf form text (number_of_status a.status) a.lines)
      → IfOk r (IsClockAnswerTo wanted form text)
  clock_steps_answer r wanted_is is = rw wanted_is (IfOk-weaker r _ (IsClockAnswerTo c.Steps form text) (λ a told. inl told) is)

-- what is written of an output has its status
in_status : (whole answer : Answer) (Answers : ℕ → Text → Type 0) → Answers (number_of_status whole.status) whole.lines → IsWrittenOf whole answer
    → IsWritten (Answers (number_of_status answer.status)) answer.lines
in_status whole answer Answers is written =
    (whole.lines, subst (λ s. Answers (number_of_status s) whole.lines) (sym written.status) is, written.lines)

module _ (wanted : WantedOutput) (form : Form) (text : Text) where
  explained_in : (of_clocks : Bool) (a : Answer) → is_of_clocks form.file text ≡ of_clocks
      → AnswersTextIn of_clocks form text (number_of_status a.status) a.lines → wanted ≡ Explanation → IsAnswerTo wanted form text a
  explained_in of_clocks a language is wanted_is =
      let own : AnswersTextIn (is_of_clocks form.file text) form text (number_of_status a.status) a.lines =
      subst (λ (b : Bool). AnswersTextIn b form text (number_of_status a.status) a.lines) (sym language) is in
      subst (λ (w : WantedOutput). IsAnswerTo w form text a) (sym wanted_is) own

  pub text_is_explained : (r : Result Answer NoMemory) → wanted ≡ Explanation → is_of_clocks form.file text ≡ false → IfOk r (IsPlAnswerTo p.Explanation form text)
      → IfOk r (IsAnswerTo wanted form text)
  text_is_explained r wanted_is language is = IfOk-weaker r _ (IsAnswerTo wanted form text) (λ a answer. explained_in false a language answer wanted_is) is

  pub clock_text_is_explained : (r : Result Answer NoMemory) → wanted ≡ Explanation → is_of_clocks form.file text ≡ true → IfOk r (IsClockAnswerTo c.Explanation form text)
      → IfOk r (IsAnswerTo wanted form text)
  clock_text_is_explained r wanted_is language is = IfOk-weaker r _ (IsAnswerTo wanted form text) (λ a answer. explained_in true a language answer wanted_is) is

  steps_in : (of_clocks : Bool) (a : Answer) → is_of_clocks form.file text ≡ of_clocks
      → AnswersStepsIn of_clocks form text (number_of_status a.status) a.lines → wanted ≡ Steps → IsAnswerTo wanted form text a
  steps_in of_clocks a language is wanted_is =
      let own : AnswersStepsIn (is_of_clocks form.file text) form text (number_of_status a.status) a.lines =
      subst (λ (b : Bool). AnswersStepsIn b form text (number_of_status a.status) a.lines) (sym language) is in
      subst (λ (w : WantedOutput). IsAnswerTo w form text a) (sym wanted_is) own

  pub text_has_steps : (r : Result Answer NoMemory) → wanted ≡ Steps → is_of_clocks form.file text ≡ false → IfOk r (IsPlAnswerTo p.Steps form text)
      → IfOk r (IsAnswerTo wanted form text)
  text_has_steps r wanted_is language is = IfOk-weaker r _ (IsAnswerTo wanted form text) (λ a answer. steps_in false a language answer wanted_is) is

  pub clock_text_has_steps : (r : Result Answer NoMemory) → wanted ≡ Steps → is_of_clocks form.file text ≡ true → IfOk r (IsClockAnswerTo c.Steps form text)
      → IfOk r (IsAnswerTo wanted form text)
  clock_text_has_steps r wanted_is language is = IfOk-weaker r _ (IsAnswerTo wanted form text) (λ a answer. steps_in true a language answer wanted_is) is

  pub text_is_avoided : (r : Result Answer NoMemory) → wanted ≡ Avoided → IfOk r (IsPlAnswerTo p.Avoided form text) → IfOk r (IsAnswerTo wanted form text)
  text_is_avoided r wanted_is is = rw wanted_is is

  -- what is told of a clock text, where that is wanted
  pub clocks_answer : (r : Result Answer NoMemory) → wanted ≡ Clocks → IfOk r (IsClockAnswerTo c.Explanation form text)
      → IfOk r (IsAnswerTo wanted form text)
  clocks_answer r wanted_is is = rw wanted_is is

-- what is written of an output for the text that was read is one for the source
pub text_answers : (wanted : WantedOutput) (form : Form) (src : Passage) (text : Text) (answer : Answer) → HasInput (Some MAX_TEXT_BYTES) src text
    → IsWrittenAnswerTo wanted form text answer → IsSound src → AnswersSource wanted form src answer
text_answers Explanation form src text answer has (whole, is, written) still = (inl (text, has, in_status whole answer (AnswersEither form text) is written), still)
text_answers Steps form src text answer has (whole, is, written) still = (inl (text, has, in_status whole answer (AnswersStepsOf form text) is written), still)
text_answers Avoided form src text answer has (whole, is, written) still = (inl (text, has, in_status whole answer (AnswersAvoided form text) is written), still)
text_answers Clocks form src text answer has (whole, is, written) still = (inl (text, has, in_status whole answer (AnswersClock form text) is written), still)

-- and so is the refusal of too long a text
pub length_answers : (wanted : WantedOutput) (form : Form) (src : Passage) (answer : Answer) → GaveTooMuch (Some MAX_TEXT_BYTES) src
    → number_of_status answer.status ≡ 3 → answer.lines ≡ legible (length_refusal form.file) → IsSound src → AnswersSource wanted form src answer
length_answers Explanation form src answer much three lines still = (inr (much, three, lines), still)
length_answers wanted form src answer much three lines still = (inr (much, three, lines), still)
