-- What the rows of a digraph keep.
use Rattle.std.specs.Prelude.{◌≡◌, ◌^◌, ℕ, ◌<◌, List, length, All}
use Rattle.std.specs.List.{sum_by}
use Rattle.armus_base.specs.Counts.{IsCount}
use Rattle.digraph.specs.calls.Graph.{HasEdge, Ascends}

-- what is true of a node's successors among n nodes: they ascend, and each is a node
abbrev pub IsRow : ℕ → List ℕ → Type 0
IsRow n row = Ascends row × All (λ b. b < n) row

-- what is true of all rows
abbrev pub IsGraph : List (List ℕ) → Type 0
IsGraph g = All (IsRow (length g)) g

-- how many edges there are: the lengths of the rows together
abbrev pub edge_count : List (List ℕ) → ℕ
edge_count g = sum_by length g

-- what a digraph keeps: each row ascends and has only nodes, and the edges are counted
pub record IsDigraph (g : List (List ℕ)) (count : ℕ) : Type 0 where
  pub rows : IsGraph g
  pub counted : count ≡ edge_count g
  pub exact : IsCount (λ (p : ℕ × ℕ). HasEdge g p.0 p.1) count
  pub few : length g < 2 ^ 32
