use Rattle.std.proofs.lemmas.Result.{on_ok_weaker}
use Rattle.explain_deadlock.proofs.Pieces.{seven_pieces}
use Rattle.explain_deadlock.proofs.hint.put_no_more.Goals as goal

pub returns : goal.returns
returns c =
    on_ok_weaker c.put_words-4.result
    (λ e. seven_pieces _ _ _ _ _ _ _ _ _ _ _ _ _ _ _ c.in_ok-put_words.ensures c.in_ok-put_named.ensures c.in_ok-put_words-2.ensures c.in_ok-put_awaited_phaser.ensures c.in_ok-put_words-3.ensures c.in_ok-put_wait_place.ensures e)
    c.put_words-4.ensures
