use Rattle.std.proofs.Common.{List, subst, sym}
use Rattle.explain_clock.specs.declared.kept_lines.Kept.{Kept}
use Rattle.explain_clock.specs.inside.KeptLines.{AreKept}
use Rattle.explain_clock.proofs.facts.ClockFacts.put_paragraphs.Goals as goal

pub put_each-requires-clause-kept : goal.put_each-requires-clause-kept
put_each-requires-clause-kept c = subst (λ (ks : List Kept). AreKept c.args.self.now ks) (sym c.deref-5.ensures.value) c.in_ok-kept.ensures
