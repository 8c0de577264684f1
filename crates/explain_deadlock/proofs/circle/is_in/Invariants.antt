use Rattle.std.proofs.Common.{◌≡◌, ℕ, ◌<◌, get_or}
use Rattle.armus_base.specs.declared.ids.TaskId.{TaskId}
use Rattle.explain_deadlock.proofs.circle.is_in.Given as goal

abbrev pub invariant-loop-u : goal.invariant-loop-u
invariant-loop-u l = (k : ℕ) (d : TaskId) → k < l.u-index → get_or l.tasks k d ≡ l.t → ⊥
