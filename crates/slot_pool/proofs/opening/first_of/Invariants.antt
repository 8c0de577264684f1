use Rattle.std.proofs.Common.{◌≡◌, None, replicate, length}
use Rattle.slot_pool.proofs.opening.first_of.Given as goal

abbrev pub invariant-loop-slot : goal.invariant-loop-slot
invariant-loop-slot g l = l.slots.items ≡ replicate (length l.slots.items) None

abbrev pub decreases-loop-slot : goal.decreases-loop-slot
decreases-loop-slot g l = length l.slots.items
