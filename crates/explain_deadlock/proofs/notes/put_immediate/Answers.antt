use Rattle.std.proofs.lemmas.Result.{on_ok_weaker}
use Rattle.explain_deadlock.proofs.Pieces.{six_pieces}
use Rattle.explain_deadlock.proofs.notes.put_immediate.Goals as goal

pub returns : goal.returns
returns c =
    on_ok_weaker c.put_words-3.result
    (λ e. six_pieces _ _ _ _ _ _ _ _ _ _ _ _ _ c.in_ok-put_await_front.ensures c.in_ok-put_words.ensures c.in_ok-put_await_words.ensures c.in_ok-put_words-2.ensures c.in_ok-put_why_immediate.ensures e)
    c.put_words-3.ensures
