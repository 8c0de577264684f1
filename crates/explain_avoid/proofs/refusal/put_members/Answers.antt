use Rattle.std.proofs.Common.{◌++◌, ap, ◌∙◌}
use Rattle.report.proofs.Texts.{texts_all, texts_more}
use Rattle.explain_facts.specs.calls.Known.{kept_layout}
use Rattle.explain_avoid.specs.RefusalWords.{avoided_link_words, member_words}
use Rattle.explain_avoid.proofs.refusal.put_members.Goals as goal

pub loop-k-preserved : goal.loop-k-preserved
loop-k-preserved c = λ ops stand.
    c.in_ok-put_linked.ensures ops stand
    ∙ texts_more (λ k v. member_words (kept_layout c.args.facts.now) c.args.facts.now.program.now ops v.0 ++ avoided_link_words k) (record { 0 = 0 }) c.args.cycle.now
    c.loop-k.k c.loop-k-test.true c.args.out.now.items c.loop-k.out.items (c.loop-k.invariant ops stand)

pub returns : goal.returns
returns c = λ ops stand.
    c.loop-k.invariant ops stand
    ∙ ap (λ xs. c.args.out.now.items ++ xs)
    (texts_all (λ k v. member_words (kept_layout c.args.facts.now) c.args.facts.now.program.now ops v.0 ++ avoided_link_words k) c.args.cycle.now c.loop-k.k
    c.loop-k-test.false)
