use Rattle.adaptive.specs.inside.Remaining.{IsRemainingOf, count_remaining}
use Rattle.adaptive.proofs.dead.dead_of.Given as goal

abbrev pub decreases-rounds : goal.decreases-rounds
decreases-rounds l = count_remaining l.remaining.remains.items

abbrev pub invariant-rounds : goal.invariant-rounds
invariant-rounds l = IsRemainingOf l.list l.remaining
