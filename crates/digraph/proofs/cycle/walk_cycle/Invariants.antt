use Rattle.std.proofs.Common.{◌≡◌, ℕ, ◌<◌, length, get_or, true, false, count_by}
use Rattle.std.specs.Prelude.{Contains, ◌↔◌, not}
use Rattle.armus_base.proofs.WalkCycles.{IsWalkTo}
use Rattle.digraph.proofs.cycle.walk_cycle.Given as goal

abbrev pub invariant-walk : goal.invariant-walk
invariant-walk l = record {
  walk : IsWalkTo (λ a b. b ≡ get_or l.next a 0) l.start l.path.items l.node;
  marks : (v : ℕ) → (get_or l.seen.items v false ≡ true) ↔ Contains l.path.items v;
  inside : l.node < length l.next;
  sized : length l.seen.items ≡ length l.next;
}

abbrev pub decreases-walk : goal.decreases-walk
decreases-walk l = count_by not l.seen.items
