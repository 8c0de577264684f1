use Rattle.std.proofs.Common.{take}
use Rattle.order_graph.specs.inside.Distances.{TellsNearest}
use Rattle.order_graph.proofs.distances.nearest.Given as goal

abbrev pub invariant-loop-next : goal.invariant-loop-next
invariant-loop-next l = TellsNearest l.order l.goal (take l.next-index l.next-items) l.best
