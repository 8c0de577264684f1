use Rattle.std.proofs.Common.{◌≡◌}
use Rattle.std.specs.Prelude.{vec_len}
use Rattle.order_graph.specs.inside.Distances.{TellDistances}
use Rattle.order_graph.proofs.distances.distances.Given as goal

abbrev pub invariant-loop-k : goal.invariant-loop-k
invariant-loop-k l = record { sized : vec_len l.far ≡ l.k; tells : TellDistances l.order l.goal l.far.items }
