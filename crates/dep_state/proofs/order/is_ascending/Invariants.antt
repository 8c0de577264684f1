use Rattle.std.proofs.Common.{ℕ, ◌<◌, get_or}
use Rattle.armus_base.specs.declared.status.Member.{Member}
use Rattle.dep_state.proofs.order.is_ascending.Given as goal

abbrev pub invariant-loop-k : goal.invariant-loop-k
invariant-loop-k l = (i j : ℕ) (d : Member) → i < j → j < l.k → (get_or l.phases i d).p.0 < (get_or l.phases j d).p.0
