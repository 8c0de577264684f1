use Rattle.std.proofs.lemmas.Result.{on_ok_weaker}
use Rattle.explain_clock.proofs.Lines.{four_pieces}
use Rattle.explain_clock.proofs.text_facts.ClockTextFacts.put_advance.Goals as goal

pub returns : goal.returns
returns c =
    on_ok_weaker c.put_clock.result
    (λ e. four_pieces _ _ _ _ _ _ _ _ _ c.in_ok-put_by_number.ensures c.in_ok-put_number.ensures c.in_ok-put_words.ensures e)
    c.put_clock.ensures
