use Rattle.std.proofs.Common.{ℕ, ◌<◌, get_or}
use Rattle.armus_base.specs.declared.status.Status.{Status}
use Rattle.dep_state.proofs.order.has_ordered_tasks.Given as goal

abbrev pub invariant-loop-k : goal.invariant-loop-k
invariant-loop-k l = (i j : ℕ) (c d : Status) → i < j → j < l.k → (get_or l.list i c).t.0 < (get_or l.list j d).t.0
