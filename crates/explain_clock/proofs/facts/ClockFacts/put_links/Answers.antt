use Rattle.std.proofs.Common.{◌++◌, ap, ◌∙◌}
use Rattle.explain_clock.specs.ClockCircles.{linked_activity_words}
use Rattle.report.proofs.Texts.{texts_all, texts_more}
use Rattle.explain_clock.proofs.facts.ClockFacts.put_links.Goals as goal

pub loop-k-preserved : goal.loop-k-preserved
loop-k-preserved c =
    c.in_ok-put_linked.ensures
    ∙ texts_more (linked_activity_words c.args.self.now) (record { 0 = 0 }) c.args.circle.now c.loop-k.k c.loop-k-test.true c.args.out.now.items c.loop-k.out.items c.loop-k.invariant

pub returns : goal.returns
returns c =
    c.loop-k.invariant
    ∙ ap (λ xs. c.args.out.now.items ++ xs) (texts_all (linked_activity_words c.args.self.now) c.args.circle.now c.loop-k.k c.loop-k-test.false)
