use Rattle.std.proofs.lemmas.Result.{on_ok_weaker}
use Rattle.explain_deadlock.proofs.Pieces.{five_pieces}
use Rattle.explain_deadlock.proofs.impeder_lines.put_group.Goals as goal

pub returns : goal.returns
returns c =
    on_ok_weaker c.put_words.result
    (λ e. five_pieces _ _ _ _ _ _ _ _ _ _ _ c.in_ok-put_keeping.ensures c.in_ok-put_kept.ensures c.in_ok-put_forking.ensures c.in_ok-put_kept-2.ensures e)
    c.put_words.ensures
