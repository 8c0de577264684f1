use Rattle.explain_deadlock.proofs.Numbered.{AreNumbersBelow}
use Rattle.explain_deadlock.proofs.numbers.numbers_of.Given as goal

abbrev pub invariant-loop-u : goal.invariant-loop-u
invariant-loop-u l = AreNumbersBelow l.facts l.u l.numbers.items l.said
