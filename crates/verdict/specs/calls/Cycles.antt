-- The cycle of a report, and the test of a cycle.
use Rattle.std.specs.Prelude.{◌≡◌, ℕ, ◌+◌, ◌<◌, List, length, ◌⊎◌, Any, Contains, slice_index_or}
use Rattle.armus_base.specs.Relations.{IsWalkCycle}
use Rattle.armus_base.specs.Statuses.{Impedes}
use Rattle.armus_base.specs.declared.event.Event.{Event}
use Rattle.armus_base.specs.declared.ids.TaskId.{TaskId}
use Rattle.armus_base.specs.declared.status.Status.{Status}
use Rattle.verdict.specs.declared.found.Cycle.{Cycle}
use Rattle.verdict.specs.Cycles.{IsDeadStep}

-- each task awaits the event at its place
pub record HaveEvents (list : List Status) (tasks : List TaskId) (events : List Event) : Type 0 where
  pub sized : length events ≡ length tasks
  pub each :
      (k : ℕ) (t : TaskId) (e : Event) → k < length tasks →
      (s : Status) × Contains list s × (s.t ≡ slice_index_or tasks k t) × (s.event ≡ slice_index_or events k e)

-- the cycle of the walk from the least dead task to the least dead task that impedes each time, with each task's event
pub record IsCycleOf (list : List Status) (dead : List TaskId) (c : Cycle) : Type 0 where
  pub start : TaskId
  pub first : (t : TaskId) → slice_index_or dead 0 t ≡ start
  pub walk : IsWalkCycle (IsDeadStep list) start c.tasks
  pub events : HaveEvents list c.tasks c.events

-- j is the place after k among n, or the first after the last
abbrev pub IsNextPlace : ℕ → ℕ → ℕ → Type 0
IsNextPlace n k j = ((k + 1 ≡ n) × (j ≡ 0)) ⊎ ((k + 1 < n) × (j ≡ k + 1))

-- no task ahead of the one at k is equal to it
abbrev pub IsNewAt : List TaskId → ℕ → Type 0
IsNewAt tasks k = (j : ℕ) (t : TaskId) → j < k → slice_index_or tasks j t ≡ slice_index_or tasks k t → ⊥

-- the task at k is new, and awaits the event at k, which the next task impedes
pub record IsLink (list : List Status) (tasks : List TaskId) (events : List Event) (k : ℕ) : Type 0 where
  pub awaits : (t : TaskId) (e : Event) → Any (λ s. (s.t ≡ slice_index_or tasks k t) × (s.event ≡ slice_index_or events k e)) list
  pub impeded :
      (j : ℕ) (t : TaskId) (e : Event) → IsNextPlace (length tasks) k j →
      Any (λ s. (s.t ≡ slice_index_or tasks j t) × Impedes s (slice_index_or events k e)) list
  pub new_task : IsNewAt tasks k

-- the tasks are distinct and some, each awaits its event, and each one's event is impeded by the next, the last one's by the first
pub record IsCycle (list : List Status) (tasks : List TaskId) (events : List Event) : Type 0 where
  pub sized : length events ≡ length tasks
  pub some : 0 < length tasks
  pub each : (k : ℕ) → k < length tasks → IsLink list tasks events k
