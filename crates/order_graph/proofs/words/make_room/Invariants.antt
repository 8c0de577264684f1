use Rattle.std.proofs.Common.{◌≡◌, ℕ, ◌+◌, ◌-◌, ◌≤◌, ◌^◌, length}
use Rattle.order_graph.specs.inside.Bits.{bit_of}
use Rattle.order_graph.proofs.words.make_room.Given as goal

abbrev pub invariant-grow : goal.invariant-grow
invariant-grow l = record {
  few : length l.words.items ≤ 2 ^ 26;
  same : (m : ℕ) → bit_of l.words.items m ≡ bit_of l.initial.words.items m;
}

abbrev pub decreases-grow : goal.decreases-grow
decreases-grow l = l.at + 1 - length l.words.items
