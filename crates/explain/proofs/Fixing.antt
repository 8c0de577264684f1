-- What is asked for and what the source gives fix the status.
use Rattle.std.proofs.Common.{◌≡◌, ℕ, Bool, true, false, List, Option, inl, inr, subst, sym}
use Rattle.std.specs.Prelude.{Some}
use Rattle.armus_base.specs.Plans.{Plan}
use Rattle.armus_base.specs.Runs.{IsMaximal, IsPlainRun, state_after}
use Rattle.armus_base.specs.Serial.{IsSerialAvoidedEnd}
use Rattle.armus_base.specs.States.{State, Step}
use Rattle.armus_base.proofs.OneEnd.{one_end}
use Rattle.armus_base.proofs.OneSerialEnd.{one_serial_end}
use Rattle.pl_plan.proofs.Unfolds.{fault_is_first}
use Rattle.report.specs.declared.refusal.Refusal.TheVariants.{Check, Syntax}
use Rattle.program_io.specs.Texts.{Text}
use Rattle.program_io.specs.Programs.{IsPlanOf}
use Rattle.program_io.specs.Passages.{EndsWith, IsCalm, Passage, no_memory, read_fault, whole, write_fault}
use Rattle.program_io.specs.declared.text_limit.TheConstants.{MAX_TEXT_BYTES}
use Rattle.program_io.proofs.Inputs.{not_long, not_more, rose_from, same_input}
use Rattle.program_io.proofs.OnePlan.{checked_plan, one_plan, plan_or_fault}
use Rattle.explain.specs.Explained.{EndsSo, IsExplanationOf, IsEndedRunOf, SomeWaits}
use Rattle.explain.specs.Outputs.{AnswersAvoided, AnswersEither, AnswersStepsIn, AnswersStepsOf, AnswersText, AnswersTextIn, FixesStatus, FixesTextStatus, IsAvoidedStatusOf, IsStatusIn, IsStatusOf, MayAnswer, MayWrite, text_limit}
use Rattle.explain.specs.ClockExplained.{AnswersClock, IsClockStatusOf}
use Rattle.explain.specs.Stepped.{AreStepsOf}
use Rattle.explain.specs.Avoided.{AvoidsSo, SomeStays}
use Rattle.explain.specs.Refused.{HasSomeFault, IsRefusedWith}
use Rattle.explain.specs.Requests.{Asked, Form, avoided, clocks, explanation, help, nothing, steps, version}
use Rattle.explain.proofs.Staying.{tells_staying}
use Rattle.explain.specs.Languages.{is_of_clocks}
use Rattle.explain.proofs.ClockOutputs.{status_of_clocks}
use Rattle.explain.proofs.ClockSteps.{status_of_clock_steps}
use Rattle.explain.proofs.Statuses.{status_of_end, status_of_fault}
use Rattle.explain.proofs.Waiting.{tells_waiting}

-- a text that is refused with some lines has a fault
pub refused_has : (file : Option Text) (text lines : Text) → IsRefusedWith file text lines → HasSomeFault text
refused_has file text lines (inl (fault, is)) = (Syntax fault, is.is_stand.found)
refused_has file text lines (inr (program, is)) = (Check is.scene.fault, (program, is.reads, (fault_is_first program is.scene.fault).1 is.is_scene.found))

-- a text with a plan has none
pub plan_or_some_fault : (text : Text) (plan : Plan) → IsPlanOf text plan → HasSomeFault text → ⊥
plan_or_some_fault text plan (program, checked) (why, fault) = plan_or_fault text why program plan fault checked

-- all runs of a text end in one state
one_state : (text : Text) (Holds : State → Type 0) (plan : Plan) (h : List Step) → IsEndedRunOf text plan h → EndsSo text Holds → Holds (state_after h)
one_state text Holds plan h one is =
    let plans : is.plan ≡ plan = one_plan text is.plan plan is.ended.plan_is one.plan_is in
    let run : IsPlainRun plan is.steps = subst (λ (q : Plan). IsPlainRun q is.steps) plans is.ended.run in
    let maximal : IsMaximal plan is.steps = subst (λ (q : Plan). IsMaximal q is.steps) plans is.ended.maximal in
    let ends = one_end plan is.steps h (checked_plan text plan one.plan_is) run one.run maximal one.maximal in
    subst Holds ends.1 is.holds

pub status_of_text : (form : Form) (text : Text) (number : ℕ) (lines : Text) → AnswersText form text number lines → IsStatusOf text number
status_of_text form text number lines (inl is) =
    status_of_end (HasSomeFault text) (EndsSo text) SomeWaits number (λ Holds is. plan_or_some_fault text is.plan is.ended.plan_is) (state_after is.steps)
    (λ Holds holds. record { plan = is.plan; steps = is.steps; ended = is.ended; holds = holds })
    (λ Holds ends. one_state text Holds is.plan is.steps is.ended ends)
    is.waits is.status_is (tells_waiting form text is.plan is.steps lines is.waits is.ended is.explains)
status_of_text form text number lines (inr (three, refused)) =
    status_of_fault (HasSomeFault text) (EndsSo text) SomeWaits number (λ Holds is. plan_or_some_fault text is.plan is.ended.plan_is) three (refused_has form.file text lines refused)

-- of a text of either language
explained_in : (of_clocks : Bool) (form : Form) (text : Text) (number : ℕ) (lines : Text) → AnswersTextIn of_clocks form text number lines
    → IsStatusIn of_clocks text number
explained_in true form text number lines is = status_of_clocks form text number lines is
explained_in false form text number lines is = status_of_text form text number lines is

-- ---- the run that avoids deadlock

-- its serial avoided run ends in one state
one_avoided_state : (text : Text) (Holds : State → Type 0) (plan : Plan) (h : List Step) → IsPlanOf text plan → IsSerialAvoidedEnd plan h → AvoidsSo text Holds
    → Holds (state_after h)
one_avoided_state text Holds plan h plan_is ended is =
    let plans : is.plan ≡ plan = one_plan text is.plan plan is.plan_is plan_is in
    let own : IsSerialAvoidedEnd plan is.steps = subst (λ (q : Plan). IsSerialAvoidedEnd q is.steps) plans is.ended in
    let same = one_serial_end plan is.steps h (checked_plan text plan plan_is) own ended in
    subst (λ (g : List Step). Holds (state_after g)) same is.holds

status_of_avoided : (form : Form) (text : Text) (number : ℕ) (lines : Text) → AnswersAvoided form text number lines → IsAvoidedStatusOf text number
status_of_avoided form text number lines (inl is) =
    status_of_end (HasSomeFault text) (AvoidsSo text) SomeStays number (λ Holds is. plan_or_some_fault text is.plan is.plan_is) (state_after is.steps)
    (λ Holds holds. record { plan = is.plan; plan_is = is.plan_is; steps = is.steps; ended = is.explains.tells.ended; holds = holds })
    (λ Holds ends. one_avoided_state text Holds is.plan is.steps is.plan_is is.explains.tells.ended ends)
    is.stays is.status_is (tells_staying form.file text is.plan is.steps is.explains.whole is.stays is.plan_is is.explains.tells.ended is.explains.tells)
status_of_avoided form text number lines (inr (three, refused)) =
    status_of_fault (HasSomeFault text) (AvoidsSo text) SomeStays number (λ Holds is. plan_or_some_fault text is.plan is.plan_is) three (refused_has form.file text lines refused)

-- ---- steps

-- steps end with an explanation
pub steps_explained : (form : Form) (text : Text) (status : ℕ) (lines : Text) → (is : AreStepsOf form text status lines)
    → IsExplanationOf form text status is.explanation
steps_explained form text status lines is = record {
  plan = is.plan;
  steps = is.steps;
  ended = is.ended;
  waits = is.waits;
  explains = is.explains;
  status_is = is.status_is;
}

-- so their status is that of the explanation
status_of_steps : (form : Form) (text : Text) (number : ℕ) (lines : Text) → AnswersStepsIn false form text number lines → IsStatusOf text number
status_of_steps form text number lines (inl is) = status_of_text form text number is.explanation (inl (steps_explained form text number lines is))
status_of_steps form text number lines (inr refused) = status_of_text form text number lines (inr refused)

-- in either language
status_in : (of_clocks : Bool) (form : Form) (text : Text) (number : ℕ) (lines : Text) → AnswersStepsIn of_clocks form text number lines
    → IsStatusIn of_clocks text number
status_in true form text number lines is = status_of_clock_steps form text number lines is
status_in false form text number lines is = status_of_steps form text number lines is

module _ (src : Passage) where
  -- a text that is answered with a status fixes this
  text_fixed : (form : Form) (Answers : Text → ℕ → Text → Type 0) (IsStatus : Text → ℕ → Type 0) (number : ℕ) (lines : Text)
      → ((text all : Text) → Answers text number all → IsStatus text number) → MayAnswer form Answers src number lines → FixesTextStatus IsStatus src number
  text_fixed form Answers IsStatus number lines tells (inl (read, has, (all, is, written))) = (
    λ text offers. subst (λ (t : Text). IsStatus t number) (sym (same_input (Some MAX_TEXT_BYTES) src text read offers has)) (tells read all is),
    λ more. absurd (not_long (Some MAX_TEXT_BYTES) src read more has),
  )
  text_fixed form Answers IsStatus number lines tells (inr (much, three, line)) = (
    λ text offers. absurd (not_more (Some MAX_TEXT_BYTES) src text offers much),
    λ more. three,
  )

  fixed : (asked : Asked) (number : ℕ) (lines : Text) → MayWrite asked src number lines → FixesStatus asked src number
  fixed (explanation form) number lines may =
      text_fixed form (AnswersEither form) (λ text. IsStatusIn (is_of_clocks form.file text) text) number lines
      (λ text all is. explained_in (is_of_clocks form.file text) form text number all is) may
  fixed (steps form) number lines may =
      text_fixed form (AnswersStepsOf form) (λ text. IsStatusIn (is_of_clocks form.file text) text) number lines
      (λ text all is. status_in (is_of_clocks form.file text) form text number all is) may
  fixed (avoided form) number lines may =
      text_fixed form (AnswersAvoided form) IsAvoidedStatusOf number lines (λ text all is. status_of_avoided form text number all is) may
  fixed (clocks form) number lines may =
      text_fixed form (AnswersClock form) IsClockStatusOf number lines (λ text all is. status_of_clocks form text number all is) may
  fixed help number lines is = is.0
  fixed version number lines is = is.0
  fixed nothing number lines is = is.0

pub completes : (asked : Asked) (src out : Passage) (number : ℕ) → EndsWith (MayWrite asked src) (text_limit asked) false src out number → IsCalm src out number
    → FixesStatus asked src number
completes asked src out number (whole lines is took still sound) calm = fixed src asked number lines is
completes asked src out number (read_fault four does failed read sound kept) calm = absurd (calm.source (rose_from src.faults_before src.faults_after failed))
completes asked src out number (write_fault five still failed part) calm = absurd (calm.sink (rose_from out.faults_before out.faults_after failed))
completes asked src out number (no_memory six still read sound part) calm = absurd (calm.memory six)
