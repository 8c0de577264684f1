use Rattle.std.proofs.Common.{◌≡◌, ℕ, ◌<◌, length}
use Rattle.order_graph.specs.inside.Gathered.{IsImpedingAt}
use Rattle.order_graph.proofs.waits.sets_of.Given as goal

abbrev pub invariant-loop-e : goal.invariant-loop-e
invariant-loop-e l = record {
  sized : length l.sets.items ≡ l.e;
  each : (e : ℕ) → e < l.e → IsImpedingAt l.deps l.sets.items e;
}
