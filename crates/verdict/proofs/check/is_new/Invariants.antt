use Rattle.std.proofs.Common.{◌≡◌, ℕ, ◌<◌, get_or}
use Rattle.armus_base.specs.declared.ids.TaskId.{TaskId}
use Rattle.verdict.proofs.check.is_new.Given as goal

abbrev pub invariant-loop-j : goal.invariant-loop-j
invariant-loop-j l = (i : ℕ) (t : TaskId) → i < l.j → get_or l.tasks i t ≡ get_or l.tasks l.k t → ⊥
