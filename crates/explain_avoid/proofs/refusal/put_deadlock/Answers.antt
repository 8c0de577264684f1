use Rattle.std.proofs.Common.{codes}
use Rattle.explain_facts.specs.calls.Known.{kept_layout}
use Rattle.explain_avoid.specs.RefusalWords.{avoided_circle_words}
use Rattle.explain_avoid.proofs.Pieces.{three_pieces}
use Rattle.explain_avoid.proofs.refusal.put_deadlock.Goals as goal

pub returns : goal.returns
returns c = λ ops stand.
    three_pieces c.args.out.now.items c.put_words.new.out.items c.put_circle.new.out.items c.put_words-2.new.out.items (codes "  deadlock: ")
    (avoided_circle_words (kept_layout c.args.facts.now) c.args.facts.now.program.now ops c.args.cycle.now) (codes "\n") c.in_ok-put_words.ensures
    (c.in_ok-put_circle.ensures ops stand) c.in_ok-put_words-2.ensures
