use Rattle.std.proofs.Common.{codes, decimal}
use Rattle.explain_steps.proofs.Pieces.{four_pieces}
use Rattle.explain_clock.specs.ClockWords.{made_clock_words}
use Rattle.explain_steps.proofs.clock_facts.ClockOpFacts.put_phase_awaited.Goals as goal

pub returns : goal.returns
returns c =
    four_pieces c.args.out.now.items c.put_words.new.out.items c.put_number.new.out.items c.put_words-2.new.out.items c.put_clock.new.out.items
    (codes "waits for phase ") (decimal c.args.phase) (codes " of ") (made_clock_words c.args.self.now.of_text c.args.x.now c.args.n)
    c.in_ok-put_words.ensures c.in_ok-put_number.ensures c.in_ok-put_words-2.ensures c.in_ok-put_clock.ensures
