use Rattle.std.proofs.Common.{◌≡◌, ℕ, ◌+◌, ◌*◌, ◌<◌, ◌≤◌}
use Rattle.std.specs.Int.{bit_at}
use Rattle.order_graph.specs.inside.Bits.{tasks_by}
use Rattle.order_graph.proofs.words.push_tasks.Given as goal

abbrev pub invariant-loop-k : goal.invariant-loop-k
invariant-loop-k l = record {
  few : l.k ≤ 64;
  list : (bits : ℕ → ℕ) → l.initial.list.items ≡ tasks_by bits (64 * l.at) → ((k : ℕ) → k < 64 → bits (64 * l.at + k) ≡ bit_at l.word k) →
      l.list.items ≡ tasks_by bits (64 * l.at + l.k);
}
