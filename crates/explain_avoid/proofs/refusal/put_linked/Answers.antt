use Rattle.std.proofs.Common.{◌∙◌, ◌++◌, ap}
use Rattle.explain_facts.specs.calls.Known.{kept_layout}
use Rattle.explain_steps.proofs.Pieces.{two_pieces}
use Rattle.explain_avoid.specs.RefusalWords.{avoided_link_words, member_words}
use Rattle.explain_avoid.proofs.refusal.put_linked.Goals as goal

pub returns : goal.returns
returns c = λ ops stand.
    two_pieces c.args.out.now.items c.put_member.new.out.items c.put_words.new.out.items
    (member_words (kept_layout c.args.facts.now) c.args.facts.now.program.now ops c.args.t.0) (avoided_link_words c.args.k) (c.in_ok-put_member.ensures ops stand)
    (c.in_ok-put_words.ensures ∙ ap (λ x. c.put_member.new.out.items ++ x) c.link.ensures)
