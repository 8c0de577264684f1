use Rattle.std.proofs.Common.{◌≡◌, ◌++◌}
use Rattle.explain_clock.specs.ClockNotes.{clock_notes_below}
use Rattle.explain_clock.proofs.text_facts.ClockTextFacts.put_notes_of.Given as goal

abbrev pub invariant-loop-p : goal.invariant-loop-p
invariant-loop-p l = l.out.items ≡ l.initial.out.items ++ clock_notes_below l.self l.uses.plan.now l.p
