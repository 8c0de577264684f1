-- From what is there before anything is written to all that is said of a call.
use Rattle.std.proofs.Common.{◌≡◌, ◌∙◌, ◌≤◌, ◌⊎◌, ℕ, Bool, true, false, Option, arith, inl, inr, refl, subst, sym}
use Rattle.std.specs.Prelude.{None, Some, if◌then◌else◌}
use Rattle.std.proofs.KnownBytes.{Keeps-refl}
use Rattle.program_io.specs.Texts.{Text}
use Rattle.program_io.specs.Passages.{EndsWith, HasCountedFault, IsSound, Passage, ReadNoMore, no_memory, read_fault}
use Rattle.program_io.specs.declared.text_limit.TheConstants.{MAX_TEXT_BYTES}
use Rattle.program_io.specs.calls.Writing.{Finished}
use Rattle.program_io.proofs.EndsFinished.{ends_finished}
use Rattle.program_io.specs.calls.ExitNumbers.{number_of_status}
use Rattle.explain.specs.declared.answer.Answer.{Answer}
use Rattle.explain.specs.Languages.{is_of_clocks}
use Rattle.explain.specs.Outputs.{AnswersStepsIn, AnswersTextIn, IsExplainCall, MayWrite, text_limit}
use Rattle.explain.specs.Requests.{Asked, Form, avoided, clocks, explanation, help, nothing, steps, version}
use Rattle.explain.specs.declared.answer.WantedOutput.{WantedOutput}
use Rattle.explain.specs.declared.answer.WantedOutput.TheVariants.{Explanation}
use Rattle.explain.specs.calls.Requested.{asked_for}
use Rattle.explain.specs.inside.Ending.{AnswersSource}
use Rattle.explain.proofs.Fixing.{completes}

-- a status by a flag is small
small : (b : Bool) (status : ℕ) → status ≡ (if b then 1 else 0) → status ≤ 3
small true status is = omega (arith, is)
small false status is = omega (arith, is)

-- an explanation has a status of 3 at most
at_most_three_told : (of_clocks : Bool) (form : Form) (text : Text) (status : ℕ) (lines : Text) → AnswersTextIn of_clocks form text status lines → status ≤ 3
at_most_three_told true form text status lines (inl is) = small is.waits status is.status_is
at_most_three_told true form text status lines (inr (three, refused)) = omega (arith, three)
at_most_three_told false form text status lines (inl is) = small is.waits status is.status_is
at_most_three_told false form text status lines (inr (three, refused)) = omega (arith, three)

-- an output with steps has a status of 3 at most
at_most_three_in : (of_clocks : Bool) (form : Form) (text : Text) (status : ℕ) (lines : Text) → AnswersStepsIn of_clocks form text status lines → status ≤ 3
at_most_three_in true form text status lines (inl is) = small is.waits status is.status_is
at_most_three_in true form text status lines (inr (three, refused)) = omega (arith, three)
at_most_three_in false form text status lines (inl is) = small is.waits status is.status_is
at_most_three_in false form text status lines (inr (three, refused)) = omega (arith, three)

-- a whole output has a status of 3 at most
at_most_three : (asked : Asked) (src : Passage) (status : ℕ) (lines : Text) → MayWrite asked src status lines → status ≤ 3
at_most_three (explanation form) src status lines (inl (text, has, (whole, is, written))) = at_most_three_told (is_of_clocks form.file text) form text status whole is
at_most_three (explanation form) src status lines (inr (much, three, line)) = omega (arith, three)
at_most_three (steps form) src status lines (inl (text, has, (whole, is, written))) = at_most_three_in (is_of_clocks form.file text) form text status whole is
at_most_three (steps form) src status lines (inr (much, three, line)) = omega (arith, three)
at_most_three (avoided form) src status lines (inl (text, has, (whole, inl is, written))) = small is.stays status is.status_is
at_most_three (avoided form) src status lines (inl (text, has, (whole, inr (three, refused), written))) = omega (arith, three)
at_most_three (avoided form) src status lines (inr (much, three, line)) = omega (arith, three)
at_most_three (clocks form) src status lines (inl (text, has, (whole, inl is, written))) = small is.waits status is.status_is
at_most_three (clocks form) src status lines (inl (text, has, (whole, inr (three, refused), written))) = omega (arith, three)
at_most_three (clocks form) src status lines (inr (much, three, line)) = omega (arith, three)
at_most_three help src status lines is = (let zero = is.0 in omega (arith, zero))
at_most_three version src status lines is = (let zero = is.0 in omega (arith, zero))
at_most_three nothing src status lines is = (let two = is.0 in omega (arith, two))

-- where a text is read, it has a limit
limited : (wanted : WantedOutput) (form : Form) → text_limit (asked_for wanted form) ≡ Some MAX_TEXT_BYTES
limited Explanation form = refl
limited wanted form = refl

-- the number after an output was to be written is its status, or 5
status_or_five : (out : Passage) (lines : Text) (status number : ℕ) → Finished out lines status number → (number ≡ status) ⊎ (number ≡ 5)
status_or_five out lines status number (inl (same, took, sound)) = inl same
status_or_five out lines status number (inr (five, failed, front)) = inr five

not_other : (status number other : ℕ) → (number ≡ status) ⊎ (number ≡ 5) → status ≤ 3 → (other ≡ 4) ⊎ (other ≡ 6) → number ≡ other → ⊥
not_other status number other (inl same) few (inl four) is = omega (arith, same, few, four, is)
not_other status number other (inl same) few (inr six) is = omega (arith, same, few, six, is)
not_other status number other (inr five) few (inl four) is = omega (arith, five, four, is)
not_other status number other (inr five) few (inr six) is = omega (arith, five, six, is)

module _ (src out : Passage) (same_source same_sink : Type 0) where
  -- an output that may be written was to be written
  pub call_finished : (asked : Asked) (lines : Text) (status number : ℕ) → MayWrite asked src status lines → IsSound src
      → (text_limit asked ≡ None → same_source × ((status ≡ 0) ⊎ (status ≡ 2))) → Finished out lines status number
      → IsExplainCall asked src out same_source same_sink number
  call_finished asked lines status number may still unread done =
      let ends = ends_finished (MayWrite asked src) (text_limit asked) false src out lines status number done may still in
      let either = status_or_five out lines status number done in
      let few = at_most_three asked src status lines may in
      record {
        ends = ends;
        unread = λ none. let (same, is) = unread none in (same, by_status either is);
        silent = λ four. absurd (not_other status number 4 either few (inl refl) four);
        unwritten = λ six. absurd (not_other status number 6 either few (inr refl) six);
        complete = completes asked src out number ends;
      }
    where
      by_status : (number ≡ status) ⊎ (number ≡ 5) → (status ≡ 0) ⊎ (status ≡ 2) → (number ≡ 0) ⊎ (number ≡ 2) ⊎ (number ≡ 5)
      by_status (inl same) (inl zero) = inl (same ∙ zero)
      by_status (inl same) (inr two) = inr (inl (same ∙ two))
      by_status (inr five) is = inr (inr five)

  -- an output that takes no text was to be written
  pub call_told : (own asked : Asked) (lines : Text) (status number : ℕ) → own ≡ asked → MayWrite own src status lines → IsSound src
      → (status ≡ 0) ⊎ (status ≡ 2) → same_source → Finished out lines status number → IsExplainCall asked src out same_source same_sink number
  call_told own asked lines status number same may still is source done =
      subst (λ (a : Asked). IsExplainCall a src out same_source same_sink number) same (call_finished own lines status number may still (λ _. (source, is)) done)

  -- an output for what the source gave was to be written
  pub call_answered : (wanted : WantedOutput) (form read : Form) (answer : Answer) (lines : Text) (number : ℕ) → read ≡ form
      → AnswersSource wanted read src answer → lines ≡ answer.lines → Finished out lines (number_of_status answer.status) number
      → IsExplainCall (asked_for wanted form) src out same_source same_sink number
  call_answered wanted form read answer lines number same (may, still) lines_are done =
      let status = number_of_status answer.status in
      let own : MayWrite (asked_for wanted form) src status answer.lines = subst (λ (f : Form). MayWrite (asked_for wanted f) src status answer.lines) same may in
      let wrote : Finished out answer.lines status number = subst (λ (t : Text). Finished out t status number) lines_are done in
      call_finished (asked_for wanted form) answer.lines status number own still (λ none. absurd (let limit = limited wanted form in cc)) wrote

module _ (src : Passage) (bytes : Option Text) (faults : ℕ) (same_source same_sink : Type 0) (wanted : WantedOutput) (form : Form) (number : ℕ) where
  abbrev same_out : Passage
  same_out = record { before = bytes; after = bytes; faults_before = faults; faults_after = faults }

  -- how it ends, by the limit of a text
  ends_there : EndsWith (MayWrite (asked_for wanted form) src) (Some MAX_TEXT_BYTES) false src same_out number
      → EndsWith (MayWrite (asked_for wanted form) src) (text_limit (asked_for wanted form)) false src same_out number
  ends_there =
      subst (λ (limit : Option ℕ). EndsWith (MayWrite (asked_for wanted form) src) limit false src same_out number) (sym (limited wanted form))

  -- nothing was written, where the source failed
  pub call_failed : number ≡ 4 → same_sink → HasCountedFault src → ReadNoMore (Some MAX_TEXT_BYTES) src
      → IsExplainCall (asked_for wanted form) src same_out same_source same_sink number
  call_failed four same failed read =
      let ends = ends_there (read_fault four refl failed read refl (Keeps-refl bytes)) in
      record {
        ends = ends;
        unread = λ none. absurd (let limit = limited wanted form in cc);
        silent = λ _. same;
        unwritten = λ six. absurd (omega (arith, four, six));
        complete = completes (asked_for wanted form) src same_out number ends;
      }

  -- nor where memory was wanting
  pub call_wanting : number ≡ 6 → same_sink → IsSound src → ReadNoMore (Some MAX_TEXT_BYTES) src
      → IsExplainCall (asked_for wanted form) src same_out same_source same_sink number
  call_wanting six same still read =
      let ends = ends_there (no_memory six still read refl (inl (Keeps-refl bytes))) in
      record {
        ends = ends;
        unread = λ none. absurd (let limit = limited wanted form in cc);
        silent = λ four. absurd (omega (arith, four, six));
        unwritten = λ _. (same, Keeps-refl bytes);
        complete = completes (asked_for wanted form) src same_out number ends;
      }
