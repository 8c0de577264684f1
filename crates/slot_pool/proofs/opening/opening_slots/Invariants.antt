use Rattle.std.proofs.Common.{◌≡◌, ◌+◌, ◌≤◌, ◌∷◌, Some, None, replicate}
use Rattle.std.specs.Vec.{vec_capacity, vec_len}
use Rattle.slot_pool.proofs.opening.opening_slots.Given as goal

abbrev pub invariant-loop : goal.invariant-loop
invariant-loop g l = (l.slots.items ≡ Some l.fn.first ∷ replicate l.counter None) × (vec_len l.slots ≡ l.counter + 1) × (l.tasks ≤ vec_capacity l.slots)
