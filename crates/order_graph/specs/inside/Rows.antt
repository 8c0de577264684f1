-- The memory of an order: the task at each position beside each task's position, and rows of successors.
use Rattle.std.specs.Prelude.{◌≡◌, ◌↔◌, ◌⊎◌, ℕ, ◌+◌, ◌<◌, ◌≤◌, List, length, Contains, slice_index, slice_index_or}
use Rattle.armus_base.specs.declared.ids.TaskId.{TaskId}
use Rattle.order_graph.specs.calls.Orders.{OrderValue, IsEdge}

-- the order that rows and positions are
abbrev pub order_of : List (List TaskId) → List ℕ → OrderValue
order_of rows positions = record { edges = rows; positions = positions }

-- each task stands at its position, and each position is that of the task there
pub record AreInverse (positions : List ℕ) (at : List TaskId) : Type 0 where
  pub sized : length at ≡ length positions
  pub task_at : (t d : TaskId) → t.0 < length positions → slice_index_or at (slice_index positions t.0) d ≡ t
  pub position_at : (k : ℕ) (d : TaskId) → k < length at → slice_index positions (slice_index_or at k d).0 ≡ k
  pub inside : (k : ℕ) (d : TaskId) → k < length at → (slice_index_or at k d).0 < length positions

-- of the edges from t those are left that lead to wanted tasks, and all other edges
pub record KeepsOnly (t : TaskId) (wanted : List TaskId) (old new : OrderValue) : Type 0 where
  pub positions : new.positions ≡ old.positions
  pub edges : (x y : TaskId) → IsEdge new x y ↔ (IsEdge old x y × (x ≡ t → Contains wanted y))

-- from a position on the tasks stand in this order, and each other task where it stood
pub record AreSettled (low : ℕ) (ts : List TaskId) (positions positions' : List ℕ) (at at' : List TaskId) : Type 0 where
  pub sized : length positions' ≡ length positions
  pub positions_here : (k : ℕ) (d : TaskId) → k < length ts → slice_index positions' (slice_index_or ts k d).0 ≡ low + k
  pub positions_there : (t : TaskId) → (Contains ts t → ⊥) → slice_index positions' t.0 ≡ slice_index positions t.0
  pub at_sized : length at' ≡ length at
  pub at_here : (k : ℕ) (d : TaskId) → k < length ts → slice_index_or at' (low + k) d ≡ slice_index_or ts k d
  pub at_there : (p : ℕ) (d : TaskId) → (p < low) ⊎ (low + length ts ≤ p) → slice_index_or at' p d ≡ slice_index_or at p d
