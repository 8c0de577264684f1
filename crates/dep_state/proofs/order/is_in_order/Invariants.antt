use Rattle.std.proofs.Common.{ℕ, ◌<◌, get_or}
use Rattle.armus_base.specs.declared.status.Status.{Status}
use Rattle.dep_state.specs.inside.Order.{HasOrderedPhases}
use Rattle.dep_state.proofs.order.is_in_order.Given as goal

abbrev pub invariant-loop-k : goal.invariant-loop-k
invariant-loop-k l = (i : ℕ) (s : Status) → i < l.k → HasOrderedPhases (get_or l.list i s)
