use Rattle.std.proofs.lemmas.Result.{on_ok_weaker}
use Rattle.explain_deadlock.proofs.Pieces.{five_pieces}
use Rattle.explain_deadlock.proofs.hint.put_before_fork.Goals as goal

pub returns : goal.returns
returns c =
    on_ok_weaker c.put_words-3.result
    (λ e. five_pieces _ _ _ _ _ _ _ _ _ _ _ c.in_ok-put_words.ensures c.in_ok-put_named.ensures c.in_ok-put_words-2.ensures c.in_ok-put_fork_place.ensures e)
    c.put_words-3.ensures
