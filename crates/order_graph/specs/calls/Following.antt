-- An order whose edges are to be the pairs of a relation, as that of the wait-for graph of a list of statuses.
use Rattle.std.specs.Prelude.{◌≡◌, ◌↔◌, ◌<◌, List}
use Rattle.armus_base.specs.declared.ids.TaskId.{TaskId}
use Rattle.armus_base.specs.declared.status.Status.{Status}
use Rattle.armus_base.specs.Graphs.{WaitsFor}
use Rattle.armus_base.specs.calls.Relations.{ReachesCycle}
use Rattle.order_graph.specs.calls.Orders.{OrderValue, IsEdge, position_of}
use Rattle.order_graph.specs.declared.answers.Followed.{Followed}
use Rattle.order_graph.specs.declared.answers.Followed.TheVariants.{Kept, Dead}

-- the edges are just the pairs
abbrev pub AreEdges : (TaskId → TaskId → Type 0) → OrderValue → Type 0
AreEdges Pair o = (a b : TaskId) → IsEdge o a b ↔ Pair a b

-- where each pair's first task stood before its second in the old order, no task has moved
abbrev pub StaysIfOrdered : (TaskId → TaskId → Type 0) → OrderValue → OrderValue → Type 0
StaysIfOrdered Pair old new = ((a b : TaskId) → Pair a b → position_of old a < position_of old b) → new.positions ≡ old.positions

-- the pairs have no cycle, and are the edges
pub record Follows (Pair : TaskId → TaskId → Type 0) (old new : OrderValue) : Type 0 where
  pub edges : AreEdges Pair new
  pub no_cycle : (t : TaskId) → ReachesCycle Pair t → ⊥
  pub stays : StaysIfOrdered Pair old new

-- the pairs have a cycle; the edges are some of the pairs, with all that were edges before
pub record StopsAtCycle (Pair : TaskId → TaskId → Type 0) (old new : OrderValue) : Type 0 where
  pub cycle : (t : TaskId) × ReachesCycle Pair t
  pub some : (a b : TaskId) → IsEdge new a b → Pair a b
  pub kept : (a b : TaskId) → IsEdge old a b → Pair a b → IsEdge new a b

-- what a call answers that makes the edges the pairs, and what it makes of the order
abbrev pub AnswersFollowing : (TaskId → TaskId → Type 0) → OrderValue → OrderValue → Followed → Type 0
AnswersFollowing Pair old new Kept = Follows Pair old new
AnswersFollowing Pair old new Dead = StopsAtCycle Pair old new

-- the edges are just the pairs of the wait-for graph
abbrev pub ArePairs : List Status → OrderValue → Type 0
ArePairs ss o = AreEdges (WaitsFor ss) o

-- where each pair of the wait-for graph was in order, no task has moved
abbrev pub StaysWhereOrdered : List Status → OrderValue → OrderValue → Type 0
StaysWhereOrdered ss old new = StaysIfOrdered (WaitsFor ss) old new

-- the pairs of the wait-for graph have no cycle, and are the edges
abbrev pub HasFollowed : List Status → OrderValue → OrderValue → Type 0
HasFollowed ss old new = Follows (WaitsFor ss) old new

-- the pairs of the wait-for graph have a cycle; the edges are some of the pairs, with all that were edges before
abbrev pub FindsCycle : List Status → OrderValue → OrderValue → Type 0
FindsCycle ss old new = StopsAtCycle (WaitsFor ss) old new

-- what `follow` answers, and what it makes of the order
abbrev pub AnswersFollow : List Status → OrderValue → OrderValue → Followed → Type 0
AnswersFollow ss old new f = AnswersFollowing (WaitsFor ss) old new f
