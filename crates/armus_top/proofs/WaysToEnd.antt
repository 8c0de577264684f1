-- The ways in which a call may end, whatever its outputs are.
use Rattle.std.proofs.Common.{ℕ, Bool, inl, inr, refl, arith}
use Rattle.std.specs.Prelude.{Option, Some}
use Rattle.report.specs.Refusals.{refusal_text}
use Rattle.report.specs.declared.refusal.Refusal.TheVariants.{Length}
use Rattle.program_io.specs.Texts.{Text}
use Rattle.program_io.specs.Passages.{EndsWith, GaveTooMuch, IsSound, Passage, ReadNoMore, no_memory, read_fault}
use Rattle.program_io.proofs.EndsFinished.{ends_finished}
use Rattle.armus_top.specs.inside.Reading.{EndsUnread, memory_wanting, source_failed, too_long}
use Rattle.armus_top.specs.inside.Writing.{LeavesOutput, nothing, part, wrote}

-- one of some of the outputs was to be written
pub leaves_one_of_more : (lines : Bool) (some outputs : ℕ → Text → Type 0) (out : Passage) (number : ℕ)
    → ((status : ℕ) (text : Text) → some status text → outputs status text) → LeavesOutput lines some out number → LeavesOutput lines outputs out number
leaves_one_of_more lines some outputs out number more (wrote status text is done) = wrote status text (more status text is) done
leaves_one_of_more lines some outputs out number more (nothing six sound kept) = nothing six sound kept
leaves_one_of_more lines some outputs out number more (part live status text is six sound front) = part live status text (more status text is) six sound front

-- where a byte too much was given, no more than that was read
pub gave_no_more : (limit : ℕ) (src : Passage) → GaveTooMuch (Some limit) src → ReadNoMore (Some limit) src
gave_no_more limit src (bytes, consumed, is) = (bytes, consumed, omega (arith, is))

module _ (outputs : ℕ → Text → Type 0) (limit : Option ℕ) (lines : Bool) (src out : Passage) where
  -- one of the outputs was to be written
  pub ends_left : (number : ℕ) → LeavesOutput lines outputs out number → IsSound src → ReadNoMore limit src → EndsWith outputs limit lines src out number
  ends_left number (wrote status text is done) still read = ends_finished outputs limit lines src out text status number done is still
  ends_left number (nothing six sound kept) still read = no_memory six still read sound (inl kept)
  ends_left number (part live status text is six sound front) still read = no_memory six still read sound (inr (live, (status, text, is, front)))

-- there is no input
pub ends_without_input : (outputs : ℕ → Text → Type 0) (limit : ℕ) (lines : Bool) (src out : Passage) (number : ℕ)
    → (GaveTooMuch (Some limit) src → outputs 3 (refusal_text Length)) → EndsUnread limit src out number → EndsWith outputs (Some limit) lines src out number
ends_without_input outputs limit lines src out number long (too_long much still (inl done)) =
    ends_finished outputs (Some limit) lines src out (refusal_text Length) 3 number done (long much) still
ends_without_input outputs limit lines src out number long (too_long much still (inr (six, sound, kept))) =
    no_memory six still (gave_no_more limit src much) sound (inl kept)
ends_without_input outputs limit lines src out number long (source_failed four failed read sound kept) = read_fault four refl failed read sound kept
ends_without_input outputs limit lines src out number long (memory_wanting six still read sound kept) = no_memory six still read sound (inl kept)
