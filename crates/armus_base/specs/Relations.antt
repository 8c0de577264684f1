-- Walks along a relation R, the cycles that they reach, and the sets that they need not leave.
use Rattle.std.specs.Prelude.{◌≡◌, ℕ, ◌+◌, ◌-◌, ◌<◌, List, ◌++◌, length, slice_index_or}
use Rattle.armus_base.specs.Counts.{IsDistinct}

-- the list is a walk along R: from each element there is a step to the next
abbrev pub IsWalk : {X : Type 0} → (X → X → Type 0) → List X → Type 0
IsWalk {X} R xs = (k : ℕ) (d : X) → k + 1 < length xs → R (slice_index_or xs k d) (slice_index_or xs (k + 1) d)

-- The walk from a start goes on, by way of some nodes ahead of the cycle, until it first comes back to a node that it has passed. The cycle is
-- its part from that node on.
pub record IsWalkCycle {X : Type 0} (R : X → X → Type 0) (start : X) (cycle : List X) : Type 0 where
  pub before : List X
  pub starts : (d : X) → slice_index_or (before ++ cycle) 0 d ≡ start
  pub steps : IsWalk R (before ++ cycle)
  pub distinct : IsDistinct (before ++ cycle)
  pub some : 0 < length cycle
  pub back : (d : X) → R (slice_index_or (before ++ cycle) (length (before ++ cycle) - 1) d) (slice_index_or cycle 0 d)
