use Rattle.std.proofs.Common.{◌≡◌, ◌++◌}
use Rattle.explain_deadlock.specs.Notes.{notes_below}
use Rattle.explain_deadlock.proofs.notes.put_phaser_notes.Given as goal

abbrev pub invariant-loop-q : goal.invariant-loop-q
invariant-loop-q l = l.out.items ≡ l.initial.out.items ++ notes_below l.facts l.text.plan.now l.q
