use Rattle.std.proofs.Common.{length}
use Rattle.explain_syntax.proofs.Reaching.{OnTheWay}
use Rattle.explain_syntax.proofs.walk.stand_behind.Given as goal

-- the walk is on the way to the place
abbrev pub invariant-loop-behind : goal.invariant-loop-behind
invariant-loop-behind l = OnTheWay l.text l.two l.body l.at l.rest l.shapes l.braces.items l.behind

abbrev pub decreases-loop-behind : goal.decreases-loop-behind
decreases-loop-behind l = length l.rest
