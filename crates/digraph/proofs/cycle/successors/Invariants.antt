use Rattle.std.proofs.Common.{length}
use Rattle.digraph.specs.calls.Graph.{graph_of}
use Rattle.digraph.specs.inside.NextTables.{AreNext, IsStepOn}
use Rattle.digraph.proofs.cycle.successors.Given as goal

abbrev pub invariant-loop-k : goal.invariant-loop-k
invariant-loop-k l = AreNext (IsStepOn (graph_of l.rows) l.answers) (length l.rows) l.k l.next.items
