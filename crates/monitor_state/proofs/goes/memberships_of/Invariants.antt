use Rattle.std.proofs.Common.{◌≡◌, take}
use Rattle.std.specs.Prelude.{sum_by}
use Rattle.monitor_state.specs.inside.Changes.{memberships_had}
use Rattle.monitor_state.proofs.goes.memberships_of.Given as goal

-- so far
abbrev pub invariant-loop-participant : goal.invariant-loop-participant
invariant-loop-participant l = l.total ≡ sum_by memberships_had (take l.participant-index l.list)
