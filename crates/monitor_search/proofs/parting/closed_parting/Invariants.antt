use Rattle.std.proofs.Common.{length}
use Rattle.monitor_search.specs.inside.Partings.{IsParting, referred}
use Rattle.monitor_search.proofs.parting.closed_parting.Given as goal

abbrev pub invariant-loop-parting : goal.invariant-loop-parting
invariant-loop-parting l = IsParting l.state (referred l.parting.inside.items) (referred l.parting.outside.items)

abbrev pub decreases-loop-parting : goal.decreases-loop-parting
decreases-loop-parting l = length l.parting.inside.items
