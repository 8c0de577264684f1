use Rattle.std.proofs.lemmas.Result.{on_ok_weaker}
use Rattle.explain_deadlock.proofs.Pieces.{four_pieces}
use Rattle.explain_deadlock.proofs.notes.put_unawaited.Goals as goal

pub returns : goal.returns
returns c =
    on_ok_weaker c.put_words-2.result
    (λ e. four_pieces _ _ _ _ _ _ _ _ _ c.in_ok-put_made_front.ensures c.in_ok-put_words.ensures c.in_ok-put_named_phaser.ensures e)
    c.put_words-2.ensures
