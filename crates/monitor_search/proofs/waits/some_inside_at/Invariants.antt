use Rattle.std.proofs.Common.{◌≡◌}
use Rattle.std.specs.List.Sorted.{IsStrictlySortedBy}
use Rattle.monitor_members.proofs.PairSets.{pair_cmp}
use Rattle.monitor_search.specs.inside.Leaving.{passes_below, passes_numbered}
use Rattle.monitor_search.specs.inside.Waits.{may_stand_inside}
use Rattle.monitor_search.proofs.waits.some_inside_at.Given as goal

-- the pairs that are left are in order, and of those before none has a number that passes
abbrev pub invariant-loop-pair : goal.invariant-loop-pair
invariant-loop-pair l = IsStrictlySortedBy pair_cmp l.pair-iterator × (passes_below (passes_numbered (may_stand_inside l.state.list l.was l.k) l.state.list) l.n l.pairs.keys ≡ passes_below (passes_numbered (may_stand_inside l.state.list l.was l.k) l.state.list) l.n l.pair-iterator)
