use Rattle.std.proofs.Common.{take}
use Rattle.order_graph.specs.inside.Rows.{AreSettled}
use Rattle.order_graph.proofs.settling.settle.Given as goal

abbrev pub invariant-loop-k : goal.invariant-loop-k
invariant-loop-k l = AreSettled l.low (take l.k l.ts) l.initial.positions l.positions l.initial.at l.at
