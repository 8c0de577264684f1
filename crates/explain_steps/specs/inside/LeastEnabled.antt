-- Who makes the next step.
use Rattle.std.specs.Prelude.{◌<◌, ℕ, Option, MatchOption, length}
use Rattle.armus_base.specs.declared.ids.TaskId.{TaskId}
use Rattle.pl_core.specs.calls.Stands.{IsEnabled}
use Rattle.pl_core.specs.calls.Worlds.{WorldValue}

-- the task with the least number that may go on, or none where no task may
abbrev pub IsLeastEnabled : WorldValue → Option TaskId → Type 0
IsLeastEnabled w found = MatchOption found
    ((t : ℕ) → t < length w.plan.parents → IsEnabled w t → ⊥)
    (λ t. (t.0 < length w.plan.parents) × IsEnabled w t.0 × ((u : ℕ) → u < t.0 → IsEnabled w u → ⊥))
