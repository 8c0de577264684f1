use Rattle.std.proofs.Common.{append_assoc}
use Rattle.clock_pl.proofs.fault.clock_words.Goals as goal

pub returns : goal.returns
returns c = simp append_assoc c.in_ok-words.ensures.ok
