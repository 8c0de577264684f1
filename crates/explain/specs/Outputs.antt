-- What a call of the program that explains texts leaves.
use Rattle.std.specs.Prelude.{◌≡◌, ◌⊎◌, ℕ, Bool, true, false, Some, Option, None}
use Rattle.std.specs.Io.KnownBytes.{Keeps}
use Rattle.explain_syntax.specs.LengthRefusals.{length_refusal}
use Rattle.program_io.specs.Texts.{Text}
use Rattle.program_io.specs.Passages.{EndsWith, GaveTooMuch, HasInput, IsCalm, Offers, OffersTooMuch, Passage}
use Rattle.program_io.specs.declared.text_limit.TheConstants.{MAX_TEXT_BYTES}
use Rattle.explain.specs.ClockExplained.{AnswersClock, IsClockRefusedWith, IsClockStatusOf}
use Rattle.explain.specs.ClockStepped.{AreClockStepsOf}
use Rattle.explain.specs.Languages.{is_of_clocks}
use Rattle.program_io.specs.Legible.{IsWritten, legible}
use Rattle.explain.specs.Explained.{EndsSo, IsExplanationOf, IsStatusBy, SomeWaits}
use Rattle.explain.specs.Stepped.{AreStepsOf}
use Rattle.explain.specs.Avoided.{AvoidsSo, IsAvoidedOf, SomeStays}
use Rattle.explain.specs.Refused.{HasSomeFault, IsRefusedWith}
use Rattle.explain.specs.Requests.{Asked, Form, avoided, clocks, explain_usage_line, explanation, help, help_lines, nothing, steps, version, version_line}

-- a whole output for this text of PL, told in this form, with its status: 0 or 1 with its explanation, or 3 with the lines of a refusal
abbrev pub AnswersText : Form → Text → ℕ → Text → Type 0
AnswersText form text status lines = IsExplanationOf form text status lines ⊎ ((status ≡ 3) × IsRefusedWith form.file text lines)

-- the same for a text that is one of clocks, or is not
abbrev pub AnswersTextIn : (of_clocks : Bool) → Form → Text → ℕ → Text → Type 0
AnswersTextIn true form text status lines = AnswersClock form text status lines
AnswersTextIn false form text status lines = AnswersText form text status lines

-- the same for a text of either language
abbrev pub AnswersEither : Form → Text → ℕ → Text → Type 0
AnswersEither form text = AnswersTextIn (is_of_clocks form.file text) form text

-- the same where the steps of its run are wanted, of a text that is one of clocks, or is not: 0 or 1 with them and with its explanation, or 3 with the lines of a
-- refusal
abbrev pub AnswersStepsIn : (of_clocks : Bool) → Form → Text → ℕ → Text → Type 0
AnswersStepsIn true form text status lines = AreClockStepsOf form text status lines ⊎ ((status ≡ 3) × IsClockRefusedWith form.file text lines)
AnswersStepsIn false form text status lines = AreStepsOf form text status lines ⊎ ((status ≡ 3) × IsRefusedWith form.file text lines)

-- the same for a text of either language
abbrev pub AnswersStepsOf : Form → Text → ℕ → Text → Type 0
AnswersStepsOf form text = AnswersStepsIn (is_of_clocks form.file text) form text

-- the same where its run that avoids deadlock is wanted: 0 or 1 with the explanation of this run, or 3 with the lines of a refusal
abbrev pub AnswersAvoided : Form → Text → ℕ → Text → Type 0
AnswersAvoided form text status lines = IsAvoidedOf form text status lines ⊎ ((status ≡ 3) × IsRefusedWith form.file text lines)

-- what may be written where a text is read that is answered so, legibly: the output of the text that the source has given, or, where it gives more than a text may
-- have, 3 with one line
abbrev pub MayAnswer : Form → (Text → ℕ → Text → Type 0) → Passage → ℕ → Text → Type 0
MayAnswer form Answers src status lines =
    ((text : Text) × HasInput (Some MAX_TEXT_BYTES) src text × IsWritten (Answers text status) lines)
    ⊎ (GaveTooMuch (Some MAX_TEXT_BYTES) src × (status ≡ 3) × (lines ≡ legible (length_refusal form.file)))

-- What may be written, with which status, where this is asked for. For an explanation, for steps, for the run that avoids deadlock, and for a clock text: such an
-- output. The lines of help and of the version with 0, and the line of usage with 2.
abbrev pub MayWrite : Asked → Passage → ℕ → Text → Type 0
MayWrite (explanation form) src status lines = MayAnswer form (AnswersEither form) src status lines
MayWrite (steps form) src status lines = MayAnswer form (AnswersStepsOf form) src status lines
MayWrite (avoided form) src status lines = MayAnswer form (AnswersAvoided form) src status lines
MayWrite (clocks form) src status lines = MayAnswer form (AnswersClock form) src status lines
MayWrite help src status lines = (status ≡ 0) × (lines ≡ help_lines)
MayWrite version src status lines = (status ≡ 0) × (lines ≡ version_line)
MayWrite nothing src status lines = (status ≡ 2) × (lines ≡ explain_usage_line)

-- the most bytes of a text, where one is read
abbrev pub text_limit : Asked → Option ℕ
text_limit (explanation form) = Some MAX_TEXT_BYTES
text_limit (steps form) = Some MAX_TEXT_BYTES
text_limit (avoided form) = Some MAX_TEXT_BYTES
text_limit (clocks form) = Some MAX_TEXT_BYTES
text_limit asked = None

-- the status of a text that is not too long: 1 exactly where a task of its final state waits
abbrev pub IsStatusOf : Text → ℕ → Type 0
IsStatusOf text = IsStatusBy (HasSomeFault text) (EndsSo text) SomeWaits

-- the status where its run that avoids deadlock is explained: 1 exactly where in the state in which this run ends a task was refused or waits
abbrev pub IsAvoidedStatusOf : Text → ℕ → Type 0
IsAvoidedStatusOf text = IsStatusBy (HasSomeFault text) (AvoidsSo text) SomeStays

-- the status of its explanation, with its steps or without, of a text that is one of clocks, or is not
abbrev pub IsStatusIn : (of_clocks : Bool) → Text → ℕ → Type 0
IsStatusIn true text number = IsClockStatusOf text number
IsStatusIn false text number = IsStatusOf text number

-- where the source tells its bytes, these fix the status of what is told of them as a text, by what it is for a text
abbrev pub FixesTextStatus : (Text → ℕ → Type 0) → Passage → ℕ → Type 0
FixesTextStatus IsStatus src number =
    ((text : Text) → Offers (Some MAX_TEXT_BYTES) src text → IsStatus text number) × (OffersTooMuch (Some MAX_TEXT_BYTES) src → number ≡ 3)

-- where this is asked for, and the source tells its bytes, these fix the status
abbrev pub FixesStatus : Asked → Passage → ℕ → Type 0
FixesStatus (explanation form) src number = FixesTextStatus (λ text. IsStatusIn (is_of_clocks form.file text) text) src number
FixesStatus (steps form) src number = FixesTextStatus (λ text. IsStatusIn (is_of_clocks form.file text) text) src number
FixesStatus (avoided form) src number = FixesTextStatus IsAvoidedStatusOf src number
FixesStatus (clocks form) src number = FixesTextStatus IsClockStatusOf src number
FixesStatus help src number = number ≡ 0
FixesStatus version src number = number ≡ 0
FixesStatus nothing src number = number ≡ 2

-- All that is said of a call: how it ends; that the source stays as it was where nothing is to be read, and then memory suffices and no source fails; that
-- the sink stays as it was after a fault of the source, and where memory is wanting; and its status, where nothing failed.
pub record IsExplainCall (asked : Asked) (src out : Passage) (same_source same_sink : Type 0) (number : ℕ) : Type 0 where
  pub ends : EndsWith (MayWrite asked src) (text_limit asked) false src out number
  pub unread : text_limit asked ≡ None → same_source × ((number ≡ 0) ⊎ (number ≡ 2) ⊎ (number ≡ 5))
  pub silent : number ≡ 4 → same_sink
  pub unwritten : number ≡ 6 → same_sink × Keeps out.before out.after
  pub complete : IsCalm src out number → FixesStatus asked src number
