-- Kept orders of tasks: edges between them, and positions along which all edges go up.
use Rattle.std.specs.Prelude.{◌≡◌, ℕ, ◌^◌, ◌<◌, List, [], length, All, Contains, slice_index, slice_index_or}
use Rattle.armus_base.specs.declared.ids.TaskId.{TaskId}
use Rattle.dep_state.specs.calls.Picks.{Ascend}

-- for each task those to which there is an edge from it, and its position
pub record OrderValue : Type 0 where
  pub edges : List (List TaskId)
  pub positions : List ℕ

-- the tasks to which there is an edge from a
abbrev pub successors_of : OrderValue → TaskId → List TaskId
successors_of o a = slice_index_or o.edges a.0 []

-- there is an edge from a to b
abbrev pub IsEdge : OrderValue → TaskId → TaskId → Type 0
IsEdge o a b = Contains (successors_of o a) b

-- the position of a task
abbrev pub position_of : OrderValue → TaskId → ℕ
position_of o t = slice_index o.positions t.0

-- the task is one of the order's tasks
abbrev pub IsTaskOf : OrderValue → TaskId → Type 0
IsTaskOf o t = t.0 < length o.positions

-- What every order keeps: each task's successors are tasks, in order of number; the positions of tasks are distinct numbers below the number of
-- tasks; and an edge goes from a smaller to a larger position.
pub record IsOrder (o : OrderValue) : Type 0 where
  pub sized : length o.edges ≡ length o.positions
  pub few : length o.positions < 2 ^ 32
  pub ascend : All Ascend o.edges
  pub are_tasks : All (All (IsTaskOf o)) o.edges
  pub inside : (t : TaskId) → IsTaskOf o t → position_of o t < length o.positions
  pub distinct : (t u : TaskId) → IsTaskOf o t → IsTaskOf o u → position_of o t ≡ position_of o u → t ≡ u
  pub forward : (a b : TaskId) → IsEdge o a b → position_of o a < position_of o b

-- an order of so many tasks that has no edges, and in which each task's position is its number
pub record IsNewOrder (tasks : ℕ) (o : OrderValue) : Type 0 where
  pub sized : length o.positions ≡ tasks
  pub none : (a b : TaskId) → IsEdge o a b → ⊥
  pub at_number : (t : TaskId) → IsTaskOf o t → position_of o t ≡ t.0
