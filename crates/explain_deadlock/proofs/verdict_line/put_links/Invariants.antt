use Rattle.std.proofs.Common.{◌≡◌, ◌++◌}
use Rattle.explain_deadlock.specs.VerdictWords.{linked_words}
use Rattle.report.proofs.Texts.{first_texts}
use Rattle.explain_deadlock.proofs.verdict_line.put_links.Given as goal

abbrev pub invariant-loop-k : goal.invariant-loop-k
invariant-loop-k l = l.out.items ≡ l.initial.out.items ++ first_texts (linked_words l.facts) l.k l.shown
