-- What the program has before it writes.
use Rattle.std.specs.Prelude.{◌≡◌, true, false, Option, Some}
use Rattle.program_io.specs.Texts.{Text}
use Rattle.program_io.specs.Passages.{HasCountedFault, IsSound, Passage, ReadNoMore}
use Rattle.program_io.specs.declared.text_limit.TheConstants.{MAX_TEXT_BYTES}
use Rattle.program_io.specs.calls.ExitNumbers.{number_of_status}
use Rattle.explain.specs.declared.answer.Answer.{Answer}
use Rattle.explain.specs.declared.answer.AnswerEnd.{AnswerEnd}
use Rattle.explain.specs.declared.answer.AnswerEnd.TheVariants.{Fault, NoMemory}
use Rattle.explain.specs.declared.answer.WantedOutput.{WantedOutput}
use Rattle.explain.specs.declared.answer.WantedOutput.TheVariants.{Avoided, Clocks, Explanation, Steps}
use Rattle.explain.specs.declared.answer.ClockWanted as clocks_wanted
use Rattle.explain.specs.declared.answer.ClockWanted.TheVariants as c
use Rattle.explain.specs.declared.answer.PlWanted as pl
use Rattle.explain.specs.declared.answer.PlWanted.TheVariants as p
use Rattle.program_io.specs.Legible.{legible}
use Rattle.explain.specs.Outputs.{AnswersAvoided, AnswersEither, AnswersStepsIn, AnswersStepsOf, AnswersText, MayWrite}
use Rattle.explain.specs.Refused.{IsRefusedWith}
use Rattle.explain.specs.Requests.{Form}
use Rattle.explain.specs.ClockExplained.{AnswersClock, IsClockRefusedWith}
use Rattle.explain.specs.calls.Requested.{asked_for}

-- it is a refusal of this text
abbrev pub IsRefusalOf : Option Text → Text → Answer → Type 0
IsRefusalOf file text answer = (number_of_status answer.status ≡ 3) × IsRefusedWith file text answer.lines

-- it is a whole output for this text of PL, of which this is wanted
abbrev pub IsPlAnswerTo : pl.PlWanted → Form → Text → Answer → Type 0
IsPlAnswerTo p.Explanation form text answer = AnswersText form text (number_of_status answer.status) answer.lines
IsPlAnswerTo p.Steps form text answer = AnswersStepsIn false form text (number_of_status answer.status) answer.lines
IsPlAnswerTo p.Avoided form text answer = AnswersAvoided form text (number_of_status answer.status) answer.lines

-- it is a refusal of this clock text
abbrev pub IsClockRefusalOf : Option Text → Text → Answer → Type 0
IsClockRefusalOf file text answer = (number_of_status answer.status ≡ 3) × IsClockRefusedWith file text answer.lines

-- it is a whole output for this clock text, of which this is wanted
abbrev pub IsClockAnswerTo : clocks_wanted.ClockWanted → Form → Text → Answer → Type 0
IsClockAnswerTo c.Explanation form text answer = AnswersClock form text (number_of_status answer.status) answer.lines
IsClockAnswerTo c.Steps form text answer = AnswersStepsIn true form text (number_of_status answer.status) answer.lines

-- it is a whole output for this text, of which this is wanted
abbrev pub IsAnswerTo : WantedOutput → Form → Text → Answer → Type 0
IsAnswerTo Explanation form text answer = AnswersEither form text (number_of_status answer.status) answer.lines
IsAnswerTo Steps form text answer = AnswersStepsOf form text (number_of_status answer.status) answer.lines
IsAnswerTo Avoided form text answer = AnswersAvoided form text (number_of_status answer.status) answer.lines
IsAnswerTo Clocks form text answer = AnswersClock form text (number_of_status answer.status) answer.lines

-- it is what is written of this output, with its status
pub record IsWrittenOf (whole answer : Answer) : Type 0 where
  pub lines : answer.lines ≡ legible whole.lines
  pub status : answer.status ≡ whole.status

-- it is what is written of a whole output for this text, of which this is wanted
abbrev pub IsWrittenAnswerTo : WantedOutput → Form → Text → Answer → Type 0
IsWrittenAnswerTo wanted form text answer = (whole : Answer) × IsAnswerTo wanted form text whole × IsWrittenOf whole answer

-- it is a whole output for what the source gave, which did not fail
abbrev pub AnswersSource : WantedOutput → Form → Passage → Answer → Type 0
AnswersSource wanted form src answer = MayWrite (asked_for wanted form) src (number_of_status answer.status) answer.lines × IsSound src

-- there is no output: the source failed, or memory was wanting
abbrev pub EndsUnanswered : Passage → AnswerEnd → Type 0
EndsUnanswered src Fault = HasCountedFault src × ReadNoMore (Some MAX_TEXT_BYTES) src
EndsUnanswered src NoMemory = IsSound src × ReadNoMore (Some MAX_TEXT_BYTES) src
