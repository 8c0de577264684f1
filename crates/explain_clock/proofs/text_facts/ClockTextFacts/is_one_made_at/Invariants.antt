use Rattle.std.proofs.Common.{◌≡◌, false}
use Rattle.explain_clock.specs.ClockNotes.{is_one_made_at}
use Rattle.explain_clock.proofs.text_facts.ClockTextFacts.is_one_made_at.Given as goal

abbrev pub invariant-loop-p : goal.invariant-loop-p
invariant-loop-p l = is_one_made_at l.self.things l.p l.n ≡ false
