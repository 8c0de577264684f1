use Rattle.std.proofs.Common.{◌≡◌, ◌++◌}
use Rattle.explain_clock.specs.ClockCircles.{linked_activity_words}
use Rattle.report.proofs.Texts.{first_texts}
use Rattle.explain_clock.proofs.facts.ClockFacts.put_links.Given as goal

abbrev pub invariant-loop-k : goal.invariant-loop-k
invariant-loop-k l = l.out.items ≡ l.initial.out.items ++ first_texts (linked_activity_words l.self) l.k l.circle
