use Rattle.std.proofs.Common.{length}
use Rattle.digraph.specs.inside.NextTables.{AreNext}
use Rattle.verdict.specs.inside.DeadWalks.{GoesToNextDead}
use Rattle.verdict.proofs.walk.nexts.Given as goal

abbrev pub invariant-loop-k : goal.invariant-loop-k
invariant-loop-k l = AreNext (GoesToNextDead l.deps l.flags) (length l.deps.tasks) l.k l.next.items
