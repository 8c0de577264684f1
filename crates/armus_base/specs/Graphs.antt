-- The graphs over a list of statuses, as the pairs that they have: wait-for graph, state graph and general resource graph; and the adaptive choice.
use Rattle.std.specs.Prelude.{◌≡◌, ℕ, ◌*◌, ◌≤◌, List, take, length, Contains}
use Rattle.armus_base.specs.Counts.{IsCount}
use Rattle.armus_base.specs.declared.event.Event.{Event}
use Rattle.armus_base.specs.declared.ids.TaskId.{TaskId}
use Rattle.armus_base.specs.declared.status.Status.{Status}
use Rattle.armus_base.specs.Statuses.{Impedes, IsAwaited}

-- a pair of the wait-for graph: task t1 awaits an event that t2 impedes
abbrev pub WaitsFor : List Status → TaskId → TaskId → Type 0
WaitsFor ss t1 t2 = (s : Status) × Contains ss s × (s.t ≡ t1) × ((u : Status) × Contains ss u × (u.t ≡ t2) × Impedes u s.event)

-- a pair of the state graph: one task impedes r1 and awaits r2, and both are awaited
abbrev pub StateEdge : List Status → Event → Event → Type 0
StateEdge ss r1 r2 = IsAwaited ss r1 × ((u : Status) × Contains ss u × Impedes u r1 × (u.event ≡ r2))

-- a node of the general resource graph: a task or an event
pub data Resource : Type 0 where
  task : TaskId → Resource
  event : Event → Resource

-- a pair of the general resource graph: from a task to the event that it awaits, or from an awaited event to a task that impedes it
abbrev pub ResourceEdge : List Status → Resource → Resource → Type 0
ResourceEdge ss (task t) (task u) = ⊥
ResourceEdge ss (task t) (event e) = (s : Status) × Contains ss s × (s.t ≡ t) × (s.event ≡ e)
ResourceEdge ss (event e) (task u) = IsAwaited ss e × ((s : Status) × Contains ss s × (s.t ≡ u) × Impedes s e)
ResourceEdge ss (event e) (event f) = ⊥

-- the state graph over the first k statuses has n pairs
abbrev pub StateCount : List Status → ℕ → ℕ → Type 0
StateCount ss k n = IsCount (λ (r : Event × Event). StateEdge (take k ss) r.0 r.1) n

-- the state graph stays small: over the first k statuses it has at most 2 k pairs, for every k (the rule of the adaptive choice)
abbrev pub StaysSmall : List Status → Type 0
StaysSmall ss = (k n : ℕ) → k ≤ length ss → StateCount ss k n → n ≤ 2 * k
