use Rattle.std.proofs.Common.{◌≡◌, ℕ, ◌<◌, true, false}
use Rattle.std.specs.Prelude.{Contains, ◌↔◌, slice_index_or}
use Rattle.armus_base.specs.declared.ids.TaskId.{TaskId}
use Rattle.armus_base.specs.Finals.{given_below}
use Rattle.dep_state.specs.calls.Picks.{Ascend, picked_at}
use Rattle.dep_state.proofs.picks.picked.Given as goal

abbrev pub invariant-loop-i : goal.invariant-loop-i
invariant-loop-i l = record {
  list : l.picked.items ≡ given_below (picked_at l.tasks l.answers) l.i;
  ascends : Ascend l.tasks → Ascend l.picked.items;
  exact : (t : TaskId) → Contains l.picked.items t ↔ ((k : ℕ) × (k < l.i) × (slice_index_or l.answers k false ≡ true) × (slice_index_or l.tasks k t ≡ t));
}
