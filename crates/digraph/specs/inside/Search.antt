-- What a search for cycles knows, while the nodes on its stack are a walk.
use Rattle.std.specs.Prelude.{◌-◌, ◌*◌, sum, count_by, Bool, true, false, ◌≡◌, ℕ, ◌+◌, ◌<◌, ◌≤◌, List, [], length, Contains, All, slice_index, slice_index_or}
use Rattle.armus_base.specs.calls.Relations.{ReachesCycle, IsInClosedSet}
use Rattle.digraph.specs.calls.Graph.{HasEdge}
use Rattle.digraph.specs.declared.search.Mark.{Mark}
use Rattle.digraph.specs.declared.search.Mark.TheVariants.{Unvisited, OnStack, Acyclic, Cyclic}

-- the mark of a node
abbrev pub mark_of : List Mark → ℕ → Mark
mark_of marks v = slice_index_or marks v Unvisited

-- the successors of a node
abbrev pub row_of : List (List ℕ) → ℕ → List ℕ
row_of g v = slice_index_or g v []

-- the nodes on the stack are a walk
pub record IsWalkOfNodes (g : List (List ℕ)) (stack : List ℕ) : Type 0 where
  pub nodes : All (λ v. v < length g) stack
  pub chain : (k : ℕ) → k + 1 < length stack → HasEdge g (slice_index stack k) (slice_index stack (k + 1))

-- each mark is right: an acyclic node stands in no closed set, a cyclic one reaches a cycle, and the nodes on the stack are a walk; the looked-at
-- successors of each node stand in no closed set
pub record IsSearch (g : List (List ℕ)) (marks : List Mark) (left : List ℕ) (stack : List ℕ) : Type 0 where
  pub marks_sized : length marks ≡ length g
  pub left_sized : length left ≡ length g
  pub bounded : (v : ℕ) → slice_index left v ≤ length (row_of g v)
  pub acyclic : (v : ℕ) → mark_of marks v ≡ Acyclic → IsInClosedSet (HasEdge g) v → ⊥
  pub cyclic : (v : ℕ) → mark_of marks v ≡ Cyclic → ReachesCycle (HasEdge g) v
  pub on_stack : (v : ℕ) → mark_of marks v ≡ OnStack → Contains stack v
  pub seen : (v k : ℕ) → slice_index left v ≤ k → k < length (row_of g v) → IsInClosedSet (HasEdge g) (slice_index (row_of g v) k) → ⊥
  pub walk : IsWalkOfNodes g stack

-- whether the mark is that of a node that was not visited
abbrev pub is_unvisited : Mark → Bool
is_unvisited Unvisited = true
is_unvisited OnStack = false
is_unvisited Acyclic = false
is_unvisited Cyclic = false

-- the node next is the successor of a node that is looked at next
pub record IsAhead (g : List (List ℕ)) (left : List ℕ) (node next : ℕ) : Type 0 where
  pub some_left : 0 < slice_index left node
  pub is : next ≡ slice_index (row_of g node) (slice_index left node - 1)
  pub inside : next < length g
  pub edge : HasEdge g node next

-- what is left to do
abbrev pub work : List ℕ → List Mark → List ℕ → ℕ
work left marks stack = sum left + 2 * count_by is_unvisited marks + length stack

-- the node was visited
abbrev pub IsMarked : List Mark → ℕ → Type 0
IsMarked marks v = mark_of marks v ≡ Unvisited → ⊥

-- a node that is marked stays marked
abbrev pub KeepsMarked : List Mark → List Mark → Type 0
KeepsMarked old now = (v : ℕ) → IsMarked old v → IsMarked now v

-- each node is marked by whether it reaches a cycle
pub record AllAreMarked (g : List (List ℕ)) (marks : List Mark) : Type 0 where
  pub sized : length marks ≡ length g
  pub acyclic : (v : ℕ) → v < length g → (mark_of marks v ≡ Cyclic → ⊥) → IsInClosedSet (HasEdge g) v → ⊥
  pub cyclic : (v : ℕ) → mark_of marks v ≡ Cyclic → ReachesCycle (HasEdge g) v

-- whether the mark is that of a node that reaches a cycle
abbrev pub is_cyclic : Mark → Bool
is_cyclic Unvisited = false
is_cyclic OnStack = false
is_cyclic Acyclic = false
is_cyclic Cyclic = true
