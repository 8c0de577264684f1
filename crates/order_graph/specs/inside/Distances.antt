-- How many edges lead from tasks to a goal.
use Rattle.std.specs.Prelude.{◌≡◌, ◌⊎◌, ℕ, ◌+◌, ◌-◌, ◌<◌, ◌≤◌, List, Option, None, length, Contains, All, MatchOption, slice_index_or, nat_lt, if◌then◌else◌}
use Rattle.armus_base.specs.declared.ids.TaskId.{TaskId}
use Rattle.armus_base.specs.calls.Relations.{Walk}
use Rattle.order_graph.specs.calls.Orders.{OrderValue, IsEdge, IsTaskOf, position_of}
use Rattle.order_graph.specs.declared.distances.Near.{Near}

-- no walk leads from a task to the goal
abbrev pub NeverReaches : OrderValue → TaskId → TaskId → Type 0
NeverReaches o goal t = (n : ℕ) → Walk (IsEdge o) n t goal → ⊥

-- the shortest walk from a task to the goal has n edges
pub record IsDistance (o : OrderValue) (goal t : TaskId) (n : ℕ) : Type 0 where
  pub walk : Walk (IsEdge o) n t goal
  pub least : (m : ℕ) → Walk (IsEdge o) m t goal → n ≤ m

-- the distance of a task from the goal, if it reaches it
abbrev pub TellsDistance : OrderValue → TaskId → TaskId → Option ℕ → Type 0
TellsDistance o goal t found = MatchOption found (NeverReaches o goal t) (IsDistance o goal t)

-- what a list of distances has of a task; the first is the goal's, and each further one is of the task one position ahead
abbrev pub distance_in : OrderValue → TaskId → List (Option ℕ) → TaskId → Option ℕ
distance_in o goal far t = if nat_lt (position_of o goal) (position_of o t) then None else slice_index_or far (position_of o goal - position_of o t) None

-- the list reaches as far ahead as the task
abbrev pub IsListedIn : OrderValue → TaskId → List (Option ℕ) → TaskId → Type 0
IsListedIn o goal far t = IsTaskOf o t × (position_of o goal < length far + position_of o t)

-- task c stands further up than t, and the list reaches as far ahead as it
pub record IsListedFurther (o : OrderValue) (goal : TaskId) (far : List (Option ℕ)) (t c : TaskId) : Type 0 where
  pub listed : IsListedIn o goal far c
  pub further : position_of o t < position_of o c

-- the list tells the distances of the tasks as far ahead as it reaches
abbrev pub TellDistances : OrderValue → TaskId → List (Option ℕ) → Type 0
TellDistances o goal far = (t : TaskId) → IsListedIn o goal far t → position_of o t ≤ position_of o goal → TellsDistance o goal t (distance_in o goal far t)

-- of these tasks one reaches the goal with the fewest edges, and among those that do it has the least number
pub record IsNearestOf (o : OrderValue) (goal : TaskId) (ts : List TaskId) (near : Near) : Type 0 where
  pub among : Contains ts near.next
  pub walk : Walk (IsEdge o) near.left near.next goal
  pub least : (c : TaskId) (n : ℕ) → Contains ts c → Walk (IsEdge o) n c goal → (near.left < n) ⊎ ((near.left ≡ n) × (near.next.0 ≤ c.0))

-- the nearest of these tasks, if one reaches the goal
abbrev pub TellsNearest : OrderValue → TaskId → List TaskId → Option Near → Type 0
TellsNearest o goal ts found = MatchOption found (All (NeverReaches o goal) ts) (IsNearestOf o goal ts)
