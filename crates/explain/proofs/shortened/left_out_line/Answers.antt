use Rattle.std.proofs.Common.{append_assoc}
use Rattle.explain.proofs.shortened.left_out_line.Goals as goal

pub returns : goal.returns
returns c = simp append_assoc c.in_ok-text.ensures.ok
