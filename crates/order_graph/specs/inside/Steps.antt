-- What is left to be done before an order has followed a relation.
use Rattle.std.specs.Prelude.{◌≡◌, ◌↔◌, ◌⊎◌, ℕ, ◌<◌, List, Contains}
use Rattle.armus_base.specs.declared.ids.TaskId.{TaskId}
use Rattle.armus_base.specs.calls.Relations.{Walk}
use Rattle.order_graph.specs.calls.Orders.{OrderValue, IsEdge, position_of}
use Rattle.order_graph.specs.declared.answers.Followed.{Followed}
use Rattle.order_graph.specs.declared.answers.Followed.TheVariants.{Kept, Dead}

-- of the edges just the pairs are left, and no task has moved
pub record KeepsPairs (Pair : TaskId → TaskId → Type 0) (old new : OrderValue) : Type 0 where
  pub positions : new.positions ≡ old.positions
  pub edges : (a b : TaskId) → IsEdge new a b ↔ (IsEdge old a b × Pair a b)

-- There are also the edges of Adds. Where each of them went up in the old order, no task has moved.
pub record AddsAll (Adds : TaskId → TaskId → Type 0) (old new : OrderValue) : Type 0 where
  pub edges : (a b : TaskId) → IsEdge new a b ↔ (IsEdge old a b ⊎ Adds a b)
  pub stays : ((a b : TaskId) → Adds a b → position_of old a < position_of old b) → new.positions ≡ old.positions

-- some edges of Adds were added, and another one would close a cycle
pub record StopsAt (Adds : TaskId → TaskId → Type 0) (old new : OrderValue) : Type 0 where
  pub some : (a b : TaskId) → IsEdge new a b → IsEdge old a b ⊎ Adds a b
  pub kept : (a b : TaskId) → IsEdge old a b → IsEdge new a b
  pub cycle : (a : TaskId) × (b : TaskId) × (n : ℕ) × Adds a b × Walk (IsEdge new) n b a

-- edges from t to the wanted tasks
abbrev pub ToWanted : TaskId → List TaskId → TaskId → TaskId → Type 0
ToWanted t wanted a b = (a ≡ t) × Contains wanted b

-- pairs from some tasks
abbrev pub PairsFrom : (TaskId → TaskId → Type 0) → List TaskId → TaskId → TaskId → Type 0
PairsFrom Pair ts a b = Contains ts a × Pair a b

-- there is an edge for each pair that is not from these tasks
abbrev pub HasOthers : (TaskId → TaskId → Type 0) → List TaskId → OrderValue → Type 0
HasOthers Pair ts o = (a b : TaskId) → Pair a b → IsEdge o a b ⊎ Contains ts a

-- what came of edges that were to be added
abbrev pub AnswersEdges : (TaskId → TaskId → Type 0) → OrderValue → OrderValue → Followed → Type 0
AnswersEdges Adds old new Kept = AddsAll Adds old new
AnswersEdges Adds old new Dead = StopsAt Adds old new
