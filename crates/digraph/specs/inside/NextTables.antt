-- Tables of the next node of each node of a walk.
use Rattle.std.specs.Prelude.{◌≡◌, ℕ, ◌<◌, Bool, true, false, List, length, All, slice_index, slice_index_or}
use Rattle.digraph.specs.calls.Cycle.{IsLeastSuccessor}

-- the next one of each of the first n nodes, among m nodes: a step along S
pub record AreNext (S : ℕ → ℕ → Type 0) (m n : ℕ) (next : List ℕ) : Type 0 where
  pub sized : length next ≡ n
  pub inside : All (λ b. b < m) next
  pub steps : (k : ℕ) → k < n → S k (slice_index next k)

-- where node a reaches a cycle, b is its least successor that does
abbrev pub IsStepOn : List (List ℕ) → List Bool → ℕ → ℕ → Type 0
IsStepOn g answers a b = slice_index_or answers a false ≡ true → IsLeastSuccessor g a b × (slice_index_or answers b false ≡ true)
