use Rattle.std.proofs.lemmas.Result.{on_ok_weaker}
use Rattle.explain_deadlock.proofs.Pieces.{four_pieces}
use Rattle.explain_deadlock.proofs.hint.put_itself_hint.Goals as goal

pub returns : goal.returns
returns c =
    on_ok_weaker c.put_words.result
    (λ e. four_pieces _ _ _ _ _ _ _ _ _ c.in_ok-put_waits_at.ensures c.in_ok-put_for_event.ensures c.in_ok-put_own_phase.ensures e)
    c.put_words.ensures
