-- How standings are told from an ascending list of the dead.
use Rattle.std.specs.Prelude.{◌≡◌, ℕ, ◌<◌, List, length, Contains, slice_index_or}
use Rattle.armus_base.specs.declared.ids.TaskId.{TaskId}

-- the task stands at this place of the list
abbrev pub IsNumberAt : List TaskId → ℕ → ℕ → Type 0
IsNumberAt tasks at t = (at < length tasks) × ((slice_index_or tasks at (record { 0 = t })).0 ≡ t)

-- the task stands in the list
abbrev pub IsIn : List TaskId → ℕ → Type 0
IsIn tasks t = Contains tasks (record { 0 = t })
