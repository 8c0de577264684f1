-- A stretch of an order whose tasks are put into another order.
use Rattle.std.specs.Prelude.{◌≡◌, ◌↔◌, ℕ, ◌+◌, ◌<◌, ◌≤◌, List, length, All, AllPairs, Contains, slice_index_or}
use Rattle.armus_base.specs.declared.ids.TaskId.{TaskId}
use Rattle.order_graph.specs.calls.Orders.{OrderValue, IsEdge, IsTaskOf, position_of}

-- a task of the stretch: its position lies between those of b and a
abbrev pub IsBetween : OrderValue → TaskId → TaskId → TaskId → Type 0
IsBetween o b a t = IsTaskOf o t × (position_of o b ≤ position_of o t) × (position_of o t ≤ position_of o a)

-- the tasks from b's position to a's, by position
pub record IsStretch (o : OrderValue) (b a : TaskId) (ts : List TaskId) : Type 0 where
  pub sized : length ts + position_of o b ≡ position_of o a + 1
  pub tasks : All (IsTaskOf o) ts
  pub each : (k : ℕ) (d : TaskId) → k < length ts → position_of o (slice_index_or ts k d) ≡ position_of o b + k

-- x may stand ahead of y: they are two tasks, and there is to be no edge from y to x
pub record MayPrecede (o : OrderValue) (a b x y : TaskId) : Type 0 where
  pub two : x ≡ y → ⊥
  pub no_edge : IsEdge o y x → ⊥
  pub not_new : (y ≡ a) × (x ≡ b) → ⊥

-- the tasks of a stretch in an order along which the edges between them go up, and the one from a to b
pub record IsMended (o : OrderValue) (a b : TaskId) (ts : List TaskId) : Type 0 where
  pub sized : length ts + position_of o b ≡ position_of o a + 1
  pub exact : (t : TaskId) → Contains ts t ↔ IsBetween o b a t
  pub precede : AllPairs (MayPrecede o a b) ts
