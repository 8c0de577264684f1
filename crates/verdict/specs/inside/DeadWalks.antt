-- The walk over dead tasks by the places of their statuses.
use Rattle.std.specs.Prelude.{◌≡◌, ◌↔◌, ℕ, ◌<◌, Bool, true, false, List, map, length, Contains, AllPairs, slice_index, slice_index_or}
use Rattle.armus_base.specs.declared.event.Event.{Event}
use Rattle.armus_base.specs.declared.ids.TaskId.{TaskId}
use Rattle.armus_base.specs.declared.status.Status.{Status}
use Rattle.dep_state.specs.calls.Deps.{Deps, impeders_of}
use Rattle.digraph.specs.calls.Cycle.{IsLeastMarked}

-- the flag of each task says whether it is one of the dead
pub record IsFlags (tasks dead : List TaskId) (n : ℕ) (flags : List Bool) : Type 0 where
  pub sized : length flags ≡ n
  pub each : (k : ℕ) (t : TaskId) → k < n → (slice_index_or flags k false ≡ true) ↔ Contains dead (slice_index_or tasks k t)

-- the task at b is the least dead one that impedes the event of the task at a
abbrev pub IsNextDead : Deps → List Bool → ℕ → ℕ → Type 0
IsNextDead d flags a b = IsLeastMarked (impeders_of d (slice_index d.awaits a)) flags b

-- where the task at a is dead, the one at b is the least dead one that impedes its event
abbrev pub GoesToNextDead : Deps → List Bool → ℕ → ℕ → Type 0
GoesToNextDead d flags a b = slice_index_or flags a false ≡ true → IsNextDead d flags a b

-- each task with a flag has a task with a flag that impedes its event
pub record IsWalkable (d : Deps) (flags : List Bool) : Type 0 where
  pub sized : length flags ≡ length d.tasks
  pub ascend : (i : ℕ) → AllPairs (λ j k. j < k) (impeders_of d i)
  pub keeps : (k : ℕ) → slice_index_or flags k false ≡ true → (u : ℕ) × Contains (impeders_of d (slice_index d.awaits k)) u × (slice_index_or flags u false ≡ true)

-- the tasks and the events of the statuses at some places
pub record IsMadeOf (ss : List Status) (places : List ℕ) (tasks : List TaskId) (events : List Event) : Type 0 where
  pub tasks_are : (s : Status) → tasks ≡ map (λ p. (slice_index_or ss p s).t) places
  pub events_are : (s : Status) → events ≡ map (λ p. (slice_index_or ss p s).event) places
