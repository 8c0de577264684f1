-- The sets of tasks that impede events, and which set is each task's own.
use Rattle.std.specs.Prelude.{◌≡◌, ◌↔◌, ◌⊎◌, ◌<◌, ◌+◌, ℕ, List, [], length, Contains, slice_index, slice_index_or}
use Rattle.armus_base.specs.declared.ids.TaskId.{TaskId}
use Rattle.dep_state.specs.calls.Deps.{Deps, impeders_of}
use Rattle.dep_state.specs.inside.Names.{named}

-- the set at a place has the tasks that impede the event there
abbrev pub IsImpedingAt : Deps → List (List TaskId) → ℕ → Type 0
IsImpedingAt d sets e = (u : TaskId) → Contains (slice_index_or sets e []) u ↔ Contains (named d.tasks (impeders_of d e)) u

-- for each event the set of the tasks that impede it, and then the empty set
pub record AreImpeding (d : Deps) (sets : List (List TaskId)) : Type 0 where
  pub sized : length sets ≡ length d.events + 1
  pub each : (e : ℕ) → e < length d.events → IsImpedingAt d sets e
  pub last : slice_index_or sets (length d.events) [] ≡ []

-- task t is one of the first k, and this is the place of its event
abbrev pub HasOwnPlace : Deps → ℕ → List ℕ → ℕ → Type 0
HasOwnPlace d k own t = (j : ℕ) × (j < k) × ((u : TaskId) → (slice_index_or d.tasks j u).0 ≡ t) × (slice_index own t ≡ slice_index d.awaits j)

-- task t is none of the first k, and has the place behind all events
pub record HasNoPlace (d : Deps) (k : ℕ) (own : List ℕ) (t : ℕ) : Type 0 where
  pub other : (j : ℕ) (u : TaskId) → j < k → (slice_index_or d.tasks j u).0 ≡ t → ⊥
  pub behind : slice_index own t ≡ length d.events

-- each task has the place of its event, if it is one of the first k
abbrev pub AreOwnPlaces : Deps → ℕ → List ℕ → Type 0
AreOwnPlaces d k own = (t : ℕ) → t < length own → HasOwnPlace d k own t ⊎ HasNoPlace d k own t
