use Rattle.std.proofs.lemmas.Result.{on_ok_weaker}
use Rattle.explain_deadlock.proofs.Pieces.{five_pieces}
use Rattle.explain_deadlock.proofs.hint.put_before.Goals as goal

pub returns : goal.returns
returns c =
    on_ok_weaker c.put_wait_place.result
    (λ e. five_pieces _ _ _ _ _ _ _ _ _ _ _ c.in_ok-put_named.ensures c.in_ok-put_words.ensures c.in_ok-put_awaited_phaser.ensures c.in_ok-put_words-2.ensures e)
    c.put_wait_place.ensures
