-- An edge that is added to an order or taken away from it.
use Rattle.std.specs.Prelude.{◌≡◌, ◌↔◌, ◌⊎◌, ℕ, ◌-◌, ◌<◌, ◌≤◌, List, length, slice_index_or}
use Rattle.armus_base.specs.declared.ids.TaskId.{TaskId}
use Rattle.armus_base.specs.calls.Relations.{Walk}
use Rattle.armus_base.specs.Relations.{IsWalk}
use Rattle.order_graph.specs.calls.Orders.{OrderValue, IsEdge, IsTaskOf, position_of}
use Rattle.order_graph.specs.declared.answers.Added.{Added}
use Rattle.order_graph.specs.declared.answers.Added.TheVariants.{Kept, Cycle}

-- b is a successor of a that reaches the goal with the fewest edges, and among these the one with the least number
pub record IsNearest (o : OrderValue) (goal a b : TaskId) : Type 0 where
  pub edge : IsEdge o a b
  pub left : ℕ
  pub walk : Walk (IsEdge o) left b goal
  pub least : (c : TaskId) (n : ℕ) → IsEdge o a c → Walk (IsEdge o) n c goal → (left < n) ⊎ ((left ≡ n) × (b.0 ≤ c.0))

-- the list is the walk from a start to the goal that goes to the nearest successor each time
pub record IsNearestWalk (o : OrderValue) (start goal : TaskId) (list : List TaskId) : Type 0 where
  pub some : 0 < length list
  pub starts : (d : TaskId) → slice_index_or list 0 d ≡ start
  pub steps : IsWalk (IsNearest o goal) list
  pub ends : (d : TaskId) → slice_index_or list (length list - 1) d ≡ goal

-- each task keeps its position but those with positions between these two
abbrev pub MovesWithin : ℕ → ℕ → OrderValue → OrderValue → Type 0
MovesWithin low high old new =
    (t : TaskId) → IsTaskOf old t → (position_of old t < low) ⊎ (high < position_of old t) → position_of new t ≡ position_of old t

-- The edge from a to b is there, and no other has changed. Only tasks with positions between those of b and a have moved: none where a stood before b.
-- No walk led from b to a.
pub record HasEdgeMore (a b : TaskId) (old new : OrderValue) : Type 0 where
  pub tasks : length new.positions ≡ length old.positions
  pub edges : (x y : TaskId) → IsEdge new x y ↔ (IsEdge old x y ⊎ ((x ≡ a) × (y ≡ b)))
  pub moved : MovesWithin (position_of old b) (position_of old a) old new
  pub no_walk : (n : ℕ) → Walk (IsEdge old) n b a → ⊥

-- what `add` answers, and what it makes of the order: nothing, where a walk leads from b to a
abbrev pub AnswersAdd : TaskId → TaskId → OrderValue → OrderValue → Added → Type 0
AnswersAdd a b old new Kept = HasEdgeMore a b old new
AnswersAdd a b old new (Cycle list) = (new ≡ old) × IsNearestWalk old b a list

-- there is no edge from a to b, and nothing else has changed
pub record HasNoEdge (a b : TaskId) (old new : OrderValue) : Type 0 where
  pub positions : new.positions ≡ old.positions
  pub edges : (x y : TaskId) → IsEdge new x y ↔ (IsEdge old x y × ((x ≡ a) × (y ≡ b) → ⊥))
