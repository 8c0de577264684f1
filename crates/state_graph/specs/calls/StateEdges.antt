-- The state graph by the places of events.
use Rattle.std.specs.Prelude.{◌≡◌, ◌↔◌, ℕ, ◌<◌, List, length, Contains, slice_index}
use Rattle.armus_base.specs.declared.ids.TaskId.{TaskId}
use Rattle.digraph.specs.calls.Graph.{HasEdge}
use Rattle.dep_state.specs.calls.Deps.{Deps, IsAwaitedBy, impeders_of}

-- one of the first k tasks awaits the event at i, and one impedes it and awaits the event at j
abbrev pub IsStatePair : Deps → ℕ → ℕ → ℕ → Type 0
IsStatePair d k i j = IsAwaitedBy d k i × ((m : ℕ) × (m < k) × Contains (impeders_of d i) m × (slice_index d.awaits m ≡ j))

-- the tasks, the place of each one's event, and the edges between the places of events
pub record StateEdges : Type 0 where
  pub tasks : List TaskId
  pub awaits : List ℕ
  pub edges : List (List ℕ)

-- the graph has the tasks of these relations, and the pairs of all of them as its edges
pub record IsStateGraphOf (d : Deps) (g : StateEdges) : Type 0 where
  pub tasks : g.tasks ≡ d.tasks
  pub awaits : g.awaits ≡ d.awaits
  pub nodes : length g.edges ≡ length d.events
  pub edges : (i j : ℕ) → HasEdge g.edges i j ↔ IsStatePair d (length d.tasks) i j
