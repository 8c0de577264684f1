use Rattle.std.proofs.Common.{◌≡◌, [], List, length, take}
use Rattle.armus_base.specs.declared.ids.TaskId.{TaskId}
use Rattle.explain_deadlock.specs.inside.Searches.{IsLooking}
use Rattle.explain_deadlock.proofs.circle.look_at_all.Given as goal

abbrev pub invariant-loop-u : goal.invariant-loop-u
invariant-loop-u l = record {
  sized : length l.search.seen.items ≡ length l.initial.search.seen.items;
  looked : (next : TaskId → List TaskId) (t : TaskId) → IsLooking next t l.at l.followers [] l.initial.search →
      IsLooking next t l.at l.followers (take l.u-index l.followers) l.search;
}
