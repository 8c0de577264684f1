use Rattle.std.proofs.Common.{◌≡◌, ℕ, ◌<◌, get_or}
use Rattle.armus_base.specs.declared.ids.TaskId.{TaskId}
use Rattle.avoider.proofs.walking.place_in.Given as goal

abbrev pub invariant-loop-k : goal.invariant-loop-k
invariant-loop-k l = (j : ℕ) (d : TaskId) → j < l.k → get_or l.path j d ≡ l.t → ⊥
