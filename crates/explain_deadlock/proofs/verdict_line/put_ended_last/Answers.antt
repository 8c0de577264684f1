use Rattle.std.proofs.lemmas.Result.{on_ok_weaker}
use Rattle.explain_deadlock.proofs.Pieces.{two_pieces}
use Rattle.explain_deadlock.proofs.verdict_line.put_ended_last.Goals as goal

pub returns : goal.returns
returns c = on_ok_weaker c.put_end_place.result (λ e. two_pieces _ _ _ _ _ c.in_ok-put_words.ensures e) c.put_end_place.ensures
