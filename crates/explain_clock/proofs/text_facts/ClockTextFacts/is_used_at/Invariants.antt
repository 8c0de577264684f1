use Rattle.std.proofs.Common.{◌≡◌, ◌&&◌, false}
use Rattle.std.specs.Prelude.{slice_get, slice_index_or}
use Rattle.armus_base.specs.Places.{some_before}
use Rattle.explain_clock.specs.ClockNotes.{is_made_at}
use Rattle.explain_clock.proofs.text_facts.ClockTextFacts.is_used_at.Given as goal

abbrev pub invariant-loop-p : goal.invariant-loop-p
invariant-loop-p l = some_before (λ p. is_made_at l.n (slice_get l.self.things p) && slice_index_or l.marks p false) l.p ≡ false
