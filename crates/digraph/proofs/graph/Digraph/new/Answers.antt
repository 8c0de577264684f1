use Rattle.std.proofs.Common.{arith}
use Rattle.digraph.proofs.RowLemmas.{empty_digraph}
use Rattle.digraph.proofs.graph.Digraph.new.Goals as goal

pub invariant_of-result : goal.invariant_of-result
invariant_of-result c = rw c.loop.invariant (empty_digraph c.loop.counter (omega (arith, c.ranges.nodes)))
