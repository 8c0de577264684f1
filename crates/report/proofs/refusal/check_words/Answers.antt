use Rattle.std.proofs.Common.{append_assoc}
use Rattle.report.proofs.refusal.check_words.Goals as goal

pub returns : goal.returns
returns c = simp append_assoc c.in_ok-words.ensures.ok
