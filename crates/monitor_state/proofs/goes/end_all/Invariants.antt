use Rattle.std.proofs.Common.{◌≡◌, ◌++◌, map, take, drop}
use Rattle.monitor_laws.specs.States.{gone_by}
use Rattle.monitor_state.proofs.goes.end_all.Given as goal

-- those before have ended
abbrev pub invariant-loop-at : goal.invariant-loop-at
invariant-loop-at l = l.list.items ≡ map (gone_by l.beginning) (take l.at l.fn.list.items) ++ drop l.at l.fn.list.items
