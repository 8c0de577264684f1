use Rattle.std.proofs.lemmas.Result.{on_ok_weaker}
use Rattle.explain_deadlock.proofs.Pieces.{four_pieces}
use Rattle.explain_deadlock.proofs.hint.put_for_event.Goals as goal

pub returns : goal.returns
returns c =
    on_ok_weaker c.put_named_phaser.result
    (λ e. four_pieces _ _ _ _ _ _ _ _ _ c.in_ok-put_words.ensures c.in_ok-put_number.ensures c.in_ok-put_words-2.ensures e)
    c.put_named_phaser.ensures
