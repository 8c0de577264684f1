-- Tasks picked from an ascending list.
use Rattle.std.specs.Prelude.{◌≡◌, ◌↔◌, ◌<◌, ℕ, Bool, true, false, List, length, Contains, AllPairs, Option, None, slice_get, slice_index_or, if◌then◌else◌}
use Rattle.armus_base.specs.declared.event.Event.{Event}
use Rattle.armus_base.specs.declared.ids.TaskId.{TaskId}
use Rattle.armus_base.specs.declared.status.Status.{Status}
use Rattle.armus_base.specs.Finals.{given_below}
use Rattle.armus_base.specs.Statuses.{Impedes}

-- the tasks ascend without repeats
abbrev pub Ascend : List TaskId → Type 0
Ascend ts = AllPairs (λ t u. t.0 < u.0) ts

-- the task at index k, if its answer is true
abbrev pub picked_at : List TaskId → List Bool → ℕ → Option TaskId
picked_at tasks answers k = if slice_index_or answers k false then slice_get tasks k else None

-- these are the tasks whose answer is true, in their order: which stand in the list, and that they ascend where the tasks do, follows
pub record IsPick (tasks : List TaskId) (answers : List Bool) (picked : List TaskId) : Type 0 where
  pub list : picked ≡ given_below (picked_at tasks answers) (length tasks)
  pub ascends : Ascend tasks → Ascend picked
  pub exact : (t : TaskId) → Contains picked t ↔ ((k : ℕ) × (k < length tasks) × (slice_index_or answers k false ≡ true) × (slice_index_or tasks k t ≡ t))

-- the task stands at this place
abbrev pub IsTaskAt : List TaskId → TaskId → ℕ → Type 0
IsTaskAt ts t k = (k < length ts) × ((u : TaskId) → slice_index_or ts k u ≡ t)

-- these are the tasks of the list that impede the event, in order of number
pub record IsImpederList (list : List Status) (e : Event) (ts : List TaskId) : Type 0 where
  pub ascends : Ascend ts
  pub exact : (t : TaskId) → Contains ts t ↔ ((s : Status) × Contains list s × (s.t ≡ t) × Impedes s e)

-- no status of the list is of this task
abbrev pub HasNoStatus : List Status → TaskId → Type 0
HasNoStatus list t = (s : Status) → Contains list s → s.t ≡ t → ⊥

-- a status of this task in the list has the event
abbrev pub HasEvent : List Status → TaskId → Event → Type 0
HasEvent list t e = (s : Status) × Contains list s × (s.t ≡ t) × (s.event ≡ e)
