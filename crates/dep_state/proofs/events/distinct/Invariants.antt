use Rattle.dep_state.proofs.DistinctEvents.{IsDistinctTo}
use Rattle.dep_state.proofs.events.distinct.Given as goal

abbrev pub invariant-loop-i : goal.invariant-loop-i
invariant-loop-i l = IsDistinctTo l.all l.i l.events.items
