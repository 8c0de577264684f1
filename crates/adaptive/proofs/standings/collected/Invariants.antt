use Rattle.adaptive.proofs.StandingLists.{AreBelow}
use Rattle.adaptive.proofs.standings.collected.Given as goal

abbrev pub invariant-loop-k : goal.invariant-loop-k
invariant-loop-k l = AreBelow l.list l.k l.standings.items
