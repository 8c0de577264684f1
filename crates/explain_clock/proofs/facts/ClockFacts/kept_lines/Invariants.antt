use Rattle.explain_clock.specs.inside.KeptLines.{AreKept}
use Rattle.explain_clock.proofs.facts.ClockFacts.kept_lines.Given as goal

abbrev pub invariant-loop-status : goal.invariant-loop-status
invariant-loop-status l = AreKept l.self l.kept.items
