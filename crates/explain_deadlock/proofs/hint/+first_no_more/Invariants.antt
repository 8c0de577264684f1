use Rattle.std.proofs.Common.{length}
use Rattle.explain_deadlock.proofs.hint.+first_no_more.Given as goal

abbrev pub decreases-first_no_more : goal.decreases-first_no_more
decreases-first_no_more l = length l.shown.now
