-- The walk to a cycle that goes to the least successor each time.
use Rattle.std.specs.Prelude.{ℕ, ◌≤◌, List, ◌≡◌, Bool, true, false, Contains, slice_index_or}
use Rattle.armus_base.specs.calls.Relations.{ReachesCycle}
use Rattle.digraph.specs.calls.Graph.{HasEdge}

-- b is the least successor of a that reaches a cycle
pub record IsLeastSuccessor (g : List (List ℕ)) (a b : ℕ) : Type 0 where
  pub edge : HasEdge g a b
  pub reaches : ReachesCycle (HasEdge g) b
  pub least : (u : ℕ) → HasEdge g a u → ReachesCycle (HasEdge g) u → b ≤ u

-- b is the least element of the row whose mark is set
pub record IsLeastMarked (row : List ℕ) (marks : List Bool) (b : ℕ) : Type 0 where
  pub there : Contains row b
  pub marked : slice_index_or marks b false ≡ true
  pub least : (u : ℕ) → Contains row u → slice_index_or marks u false ≡ true → b ≤ u
