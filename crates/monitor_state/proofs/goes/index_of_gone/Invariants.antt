use Rattle.std.proofs.Common.{take, map}
use Rattle.monitor_laws.specs.States.{gone_by}
use Rattle.monitor_state.specs.Indexes.{IsIndexOf}
use Rattle.monitor_state.proofs.goes.index_of_gone.Given as goal

-- so far
abbrev pub invariant-loop-participant : goal.invariant-loop-participant
invariant-loop-participant l = IsIndexOf (map (gone_by l.beginning) (take l.participant-index l.list)) l.index
