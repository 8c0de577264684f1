use Rattle.std.proofs.Common.{◌≡◌, take, not}
use Rattle.std.specs.Prelude.{filter, is_some}
use Rattle.order_graph.specs.inside.Distances.{distance_in}
use Rattle.order_graph.proofs.mending.mended.Given as goal

abbrev pub invariant-loop-t : goal.invariant-loop-t
invariant-loop-t l = record {
  front : l.front.items ≡ filter (λ t. is_some (distance_in l.order l.goal l.far t)) (take l.t-index l.stretch);
  back : l.back.items ≡ filter (λ t. not (is_some (distance_in l.order l.goal l.far t))) (take l.t-index l.stretch);
}
