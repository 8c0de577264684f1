use Rattle.std.proofs.Common.{take}
use Rattle.monitor_search.specs.inside.Waits.{NobodyAwaits}
use Rattle.monitor_search.proofs.waits.is_awaited.Given as goal

-- nobody waits for it so far
abbrev pub invariant-loop-membership : goal.invariant-loop-membership
invariant-loop-membership l = NobodyAwaits l.state.list (take l.membership-index l.u.phases)
