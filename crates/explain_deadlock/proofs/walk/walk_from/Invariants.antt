use Rattle.std.proofs.Common.{◌≡◌, ℕ, ◌<◌, length, get_or, true, false, count_by}
use Rattle.std.specs.Prelude.{Contains, ◌↔◌, not}
use Rattle.armus_base.proofs.WalkCycles.{IsWalkTo}
use Rattle.pl_core.specs.calls.Worlds.{state_of}
use Rattle.explain_tasks.specs.Nexts.{IsNext}
use Rattle.explain_deadlock.proofs.walk.walk_from.Given as goal

abbrev pub invariant-walk : goal.invariant-walk
invariant-walk l = record {
  walk : IsWalkTo (IsNext l.facts (state_of l.world).phases) l.fn.start l.path.items l.t;
  marks : (v : ℕ) → (get_or l.seen.items v false ≡ true) ↔ Contains l.path.items (record { 0 = v });
  inside : l.t.0 < length l.world.plan.parents;
  sized : length l.seen.items ≡ length l.world.plan.parents;
}

abbrev pub decreases-walk : goal.decreases-walk
decreases-walk l = count_by not l.seen.items
