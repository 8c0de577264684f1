-- A directed graph on the nodes 0, 1, .. as the list of each node's successors, ascending.
use Rattle.std.specs.Prelude.{◌≡◌, ◌↔◌, ◌⊎◌, Bool, false, IsTrue, ℕ, ◌<◌, List, [], length, map, Contains, slice_index_or, Vec, slice_index}
use Rattle.std.specs.Global.{Global}
use Rattle.armus_base.specs.calls.Relations.{ReachesCycle, IsInClosedSet}

-- there is an edge from a to b
abbrev pub HasEdge : List (List ℕ) → ℕ → ℕ → Type 0
HasEdge g a b = Contains (slice_index_or g a []) b

-- the graph that rows of successors are
abbrev pub graph_of : List (Vec ℕ Global) → List (List ℕ)
graph_of rows = map (λ row. row.items) rows

-- the answers say of each node whether it reaches a cycle; equally, whether it stands in a set that a walk need not leave
pub record TellsCycles (g : List (List ℕ)) (answers : List Bool) : Type 0 where
  pub sized : length answers ≡ length g
  pub cycles : (v : ℕ) → v < length g → IsTrue (slice_index_or answers v false) ↔ ReachesCycle (HasEdge g) v
  pub sets : (v : ℕ) → v < length g → IsTrue (slice_index_or answers v false) ↔ IsInClosedSet (HasEdge g) v

-- the graph now has the edges that it had, and the one from a to b
pub record AddsEdge (old now : List (List ℕ)) (a b : ℕ) : Type 0 where
  pub nodes : length now ≡ length old
  pub edges : (x y : ℕ) → HasEdge now x y ↔ (HasEdge old x y ⊎ ((x ≡ a) × (y ≡ b)))

-- the graph now has the edges that it had, and one from a to each of a list
pub record AddsEdges (old now : List (List ℕ)) (a : ℕ) (list : List ℕ) : Type 0 where
  pub nodes : length now ≡ length old
  pub edges : (x y : ℕ) → HasEdge now x y ↔ (HasEdge old x y ⊎ ((x ≡ a) × Contains list y))

-- the graph now has the edges that it had, and no others but some from a to nodes of a list
pub record AddsSomeEdges (old now : List (List ℕ)) (a : ℕ) (list : List ℕ) : Type 0 where
  pub kept : (x y : ℕ) → HasEdge old x y → HasEdge now x y
  pub within : (x y : ℕ) → HasEdge now x y → HasEdge old x y ⊎ ((x ≡ a) × Contains list y)

-- each number is below those after it
abbrev pub Ascends : List ℕ → Type 0
Ascends xs = (j k : ℕ) → j < k → k < length xs → slice_index xs j < slice_index xs k
