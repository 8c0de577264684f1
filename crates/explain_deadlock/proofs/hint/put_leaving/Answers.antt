use Rattle.std.proofs.lemmas.Result.{on_ok_weaker}
use Rattle.explain_deadlock.proofs.Pieces.{six_pieces}
use Rattle.explain_deadlock.proofs.hint.put_leaving.Goals as goal

pub returns : goal.returns
returns c =
    on_ok_weaker c.put_missing_for.result
    (λ e. six_pieces _ _ _ _ _ _ _ _ _ _ _ _ _ c.in_ok-put_words.ensures c.in_ok-put_awaited_phaser.ensures c.in_ok-put_words-2.ensures c.in_ok-put_end_place.ensures c.in_ok-put_words-3.ensures e)
    c.put_missing_for.ensures
