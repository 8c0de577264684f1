use Rattle.std.proofs.Common.{Bool, List}
use Rattle.adaptive.specs.inside.Remaining.{AreFronts}
use Rattle.adaptive.proofs.columns.columns_of.Given as goal

abbrev pub invariant-loop-i : goal.invariant-loop-i
invariant-loop-i l = (remains : List Bool) → AreFronts l.standings remains l.columns.items
