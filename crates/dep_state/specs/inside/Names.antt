-- The names of the tasks at places.
use Rattle.std.specs.Prelude.{◌≡◌, ℕ, List, map, slice_index_or}
use Rattle.armus_base.specs.declared.ids.TaskId.{TaskId}

-- a task's name for each place
abbrev pub named : List TaskId → List ℕ → List TaskId
named tasks row = map (λ k. slice_index_or tasks k (record { 0 = 0 })) row

-- the tasks that impede each event, by name
abbrev pub IsNamed : List TaskId → List (List ℕ) → List (List TaskId) → Type 0
IsNamed tasks rows names = names ≡ map (named tasks) rows
