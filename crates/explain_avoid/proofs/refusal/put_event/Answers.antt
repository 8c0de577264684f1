use Rattle.std.proofs.Common.{codes, decimal}
use Rattle.explain_steps.specs.StepWords.{made_phaser_words}
use Rattle.explain_steps.proofs.Pieces.{four_pieces}
use Rattle.explain_avoid.proofs.refusal.put_event.Goals as goal

pub returns : goal.returns
returns c =
    four_pieces c.args.out.now.items c.put_words.new.out.items c.put_number.new.out.items c.put_words-2.new.out.items c.put_phaser.new.out.items
    (codes " would have waited for phase ") (decimal c.args.event.n) (codes " of ") (made_phaser_words c.args.facts.now.program.now c.args.event.p.0)
    c.in_ok-put_words.ensures c.in_ok-put_number.ensures c.in_ok-put_words-2.ensures c.in_ok-put_phaser.ensures
