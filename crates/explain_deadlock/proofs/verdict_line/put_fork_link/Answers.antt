use Rattle.std.proofs.lemmas.Result.{on_ok_weaker}
use Rattle.explain_deadlock.proofs.Pieces.{three_pieces}
use Rattle.explain_deadlock.proofs.verdict_line.put_fork_link.Goals as goal

pub returns : goal.returns
returns c = on_ok_weaker c.put_words-2.result (λ e. three_pieces _ _ _ _ _ _ _ c.in_ok-put_words.ensures c.in_ok-put_fork_place.ensures e) c.put_words-2.ensures
