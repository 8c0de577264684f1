use Rattle.std.proofs.Common.{◌≡◌}
use Rattle.std.specs.List.Sorted.{IsStrictlySortedBy}
use Rattle.monitor_members.proofs.PairSets.{pair_cmp}
use Rattle.monitor_search.specs.inside.Leaving.{is_unfreed, passes_below, passes_numbered}
use Rattle.monitor_search.proofs.leaving.some_unfreed_at.Given as goal

-- the pairs that are left are in order, and of those before none has a number that passes
abbrev pub invariant-loop-pair : goal.invariant-loop-pair
invariant-loop-pair l = IsStrictlySortedBy pair_cmp l.pair-iterator × (passes_below (passes_numbered (is_unfreed l.state.list) l.state.list) l.n l.pairs.keys ≡ passes_below (passes_numbered (is_unfreed l.state.list) l.state.list) l.n l.pair-iterator)
