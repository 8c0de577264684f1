use Rattle.std.proofs.lemmas.Result.{on_ok_weaker}
use Rattle.explain_deadlock.proofs.Pieces.{three_pieces}
use Rattle.explain_deadlock.proofs.hint.put_own_phase.Goals as goal

pub returns : goal.returns
returns c =
    on_ok_weaker c.put_words-2.result
    (λ e. three_pieces _ _ _ _ _ _ _ c.in_ok-put_words.ensures c.in_ok-put_number.ensures e)
    c.put_words-2.ensures
