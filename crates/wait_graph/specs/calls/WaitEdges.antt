-- The wait-for graph by the places of tasks.
use Rattle.std.specs.Prelude.{◌≡◌, ◌↔◌, ℕ, ◌<◌, List, length, Contains, slice_index}
use Rattle.armus_base.specs.declared.ids.TaskId.{TaskId}
use Rattle.digraph.specs.calls.Graph.{HasEdge}
use Rattle.dep_state.specs.calls.Deps.{Deps, impeders_of}

-- the tasks, and the edges between their places
pub record WaitEdges : Type 0 where
  pub tasks : List TaskId
  pub edges : List (List ℕ)

-- the task at i awaits an event that the task at j impedes
abbrev pub IsWait : Deps → ℕ → ℕ → Type 0
IsWait d i j = (i < length d.tasks) × Contains (impeders_of d (slice_index d.awaits i)) j

-- the graph has the tasks of these relations, and their waits as its edges
pub record IsWaitGraphOf (d : Deps) (g : WaitEdges) : Type 0 where
  pub tasks : g.tasks ≡ d.tasks
  pub edges : (i j : ℕ) → HasEdge g.edges i j ↔ IsWait d i j
