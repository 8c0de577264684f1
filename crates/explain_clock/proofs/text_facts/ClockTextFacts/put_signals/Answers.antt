use Rattle.std.proofs.lemmas.Result.{on_ok_weaker}
use Rattle.explain_clock.proofs.Lines.{three_pieces}
use Rattle.explain_clock.proofs.text_facts.ClockTextFacts.put_signals.Goals as goal

pub returns : goal.returns
returns c = on_ok_weaker c.put_by_number-2.result (λ e. three_pieces _ _ _ _ _ _ _ c.in_ok-put_by_number.ensures c.in_ok-put_named.ensures e) c.put_by_number-2.ensures
