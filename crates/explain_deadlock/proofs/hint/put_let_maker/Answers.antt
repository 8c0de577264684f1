use Rattle.std.proofs.lemmas.Result.{on_ok_weaker}
use Rattle.explain_deadlock.proofs.Pieces.{three_pieces}
use Rattle.explain_deadlock.proofs.hint.put_let_maker.Goals as goal

pub returns : goal.returns
returns c =
    on_ok_weaker c.put_words-2.result
    (λ e. three_pieces _ _ _ _ _ _ _ c.in_ok-put_words.ensures c.in_ok-put_awaited_phaser.ensures e)
    c.put_words-2.ensures
