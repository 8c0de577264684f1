-- A call that has written a whole output, or failed to, ends as it may.
use Rattle.std.proofs.Common.{ℕ, Bool, inl, inr, subst, sym}
use Rattle.std.specs.Prelude.{Option}
use Rattle.program_io.specs.Passages.{EndsWith, IsSound, Passage, whole, write_fault}
use Rattle.program_io.specs.Texts.{Text}
use Rattle.program_io.specs.calls.Writing.{Finished}

module _ (outputs : ℕ → Text → Type 0) (limit : Option ℕ) (lines : Bool) (src out : Passage) where
  -- an output was to be written whole
  pub ends_finished : (text : Text) (status number : ℕ) → Finished out text status number → outputs status text → IsSound src
      → EndsWith outputs limit lines src out number
  ends_finished text status number (inl (same, took, sound)) is still = whole text (subst (λ n. outputs n text) (sym same) is) took still sound
  ends_finished text status number (inr (five, failed, front)) is still = write_fault five still failed (status, text, is, front)
