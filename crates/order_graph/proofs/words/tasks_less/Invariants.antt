use Rattle.std.proofs.Common.{◌≡◌, ◌*◌}
use Rattle.order_graph.specs.inside.Bits.{bit_less, tasks_by}
use Rattle.order_graph.proofs.words.tasks_less.Given as goal

abbrev pub invariant-loop-k : goal.invariant-loop-k
invariant-loop-k l = l.list.items ≡ tasks_by (bit_less l.words l.other) (64 * l.k)
