-- The general resource graph by the places of tasks and, after them, of events.
use Rattle.std.specs.Prelude.{◌≡◌, ◌↔◌, ◌⊎◌, ℕ, ◌+◌, ◌<◌, List, length, Contains, slice_index}
use Rattle.armus_base.specs.declared.ids.TaskId.{TaskId}
use Rattle.digraph.specs.calls.Graph.{HasEdge}
use Rattle.dep_state.specs.calls.Deps.{Deps, impeders_of}

-- the tasks, and the edges between the places of tasks and events
pub record ResourceEdges : Type 0 where
  pub tasks : List TaskId
  pub edges : List (List ℕ)

-- from the task at x to its event, or from an event at x to a task at y that impedes it; events stand after the tasks
abbrev pub IsResourcePair : Deps → ℕ → ℕ → Type 0
IsResourcePair d x y =
    ((x < length d.tasks) × (y ≡ length d.tasks + slice_index d.awaits x)) ⊎
    ((i : ℕ) × (i < length d.events) × (x ≡ length d.tasks + i) × Contains (impeders_of d i) y)

-- the graph has the tasks of these relations, and their resource pairs as its edges
pub record IsResourceGraphOf (d : Deps) (g : ResourceEdges) : Type 0 where
  pub tasks : g.tasks ≡ d.tasks
  pub nodes : length g.edges ≡ length d.tasks + length d.events
  pub edges : (x y : ℕ) → HasEdge g.edges x y ↔ IsResourcePair d x y
