use Rattle.std.proofs.lemmas.Result.{on_ok_weaker}
use Rattle.explain_deadlock.proofs.Pieces.{seven_pieces}
use Rattle.explain_deadlock.proofs.paragraphs.put_own_lines.Goals as goal

pub returns : goal.returns
returns c =
    on_ok_weaker c.put_words-2.result
    (λ e. seven_pieces _ _ _ _ _ _ _ _ _ _ _ _ _ _ _ c.in_ok-put_kept.ensures c.in_ok-put_words.ensures c.in_ok-put_named_tasks.ensures
    c.in_ok-put_by_number.ensures c.in_ok-put_kept-2.ensures c.in_ok-put_forking.ensures e)
    c.put_words-2.ensures
