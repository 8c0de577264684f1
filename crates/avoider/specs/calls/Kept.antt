-- What a decision leaves of a kept order.
use Rattle.std.specs.Prelude.{◌≢◌, ◌↔◌, ℕ, List}
use Rattle.armus_base.specs.declared.ids.TaskId.{TaskId}
use Rattle.armus_base.specs.declared.event.Event.{Event}
use Rattle.armus_base.specs.declared.status.Status.{Status}
use Rattle.armus_base.specs.CheckedPlans.{IsCheckedPlan}
use Rattle.armus_base.specs.calls.Finals.{statuses_of}
use Rattle.armus_base.specs.Graphs.{WaitsFor}
use Rattle.armus_base.specs.Plans.{Aim, Plan}
use Rattle.armus_base.specs.States.{State}
use Rattle.board.specs.calls.Seats.{Known}
use Rattle.board.specs.calls.Views.{task_of}
use Rattle.order_graph.specs.calls.Following.{ArePairs, StaysWhereOrdered}
use Rattle.order_graph.specs.calls.Orders.{OrderValue, IsEdge}
use Rattle.pl_core.specs.calls.Awaiting.{awaited_statuses}
use Rattle.avoider.specs.calls.OnBoard.{HasPublished}
use Rattle.avoider.specs.declared.decision.Decision.{Decision}
use Rattle.avoider.specs.declared.decision.Decision.TheVariants.{Published, Refused}

-- the edges are the pairs of the statuses, and where the old positions ordered all pairs, no task has moved
pub record HoldsPairs (ss : List Status) (old new : OrderValue) : Type 0 where
  pub edges : ArePairs ss new
  pub stays : StaysWhereOrdered ss old new

-- so it is where the await was published
abbrev pub HoldsIfPublished : List Status → OrderValue → OrderValue → Decision → Type 0
HoldsIfPublished ss old new (Published e) = HoldsPairs ss old new
HoldsIfPublished ss old new (Refused c) = Unit {0}

-- the edges between tasks other than t are just the pairs of the statuses
abbrev pub ArePairsOfOthers : List Status → ℕ → OrderValue → Type 0
ArePairsOfOthers ss t order = (a b : TaskId) → a.0 ≢ t → b.0 ≢ t → IsEdge order a b ↔ WaitsFor ss a b

-- The task has published the event. The edges are the pairs of the statuses on which this was decided, and those between two other tasks the pairs of the
-- statuses that the collect has found.
pub record HasPublishedByOrder (list : List Status) (aim : Aim) (event : Event) (before now : Known) (old new : OrderValue) : Type 0 where
  pub published : HasPublished list aim event before now
  pub holds : HoldsPairs published.supposed old new
  pub others : ArePairsOfOthers list (task_of before.view) new

-- so it is where the own await with this aim was published on a board
abbrev pub HoldsIfPublishedOnBoard : List Status → Aim → Known → Known → OrderValue → OrderValue → Decision → Type 0
HoldsIfPublishedOnBoard list aim before now old new (Published e) = HasPublishedByOrder list aim e before now old new
HoldsIfPublishedOnBoard list aim before now old new (Refused c) = Unit {0}

-- the statuses of a state have the same pairs of the wait-for graph, whether they list all phases or those on awaited phasers alone
abbrev pub SamePairs : Type 0
SamePairs = (plan : Plan) (s : State) → IsCheckedPlan plan → (t u : TaskId) → WaitsFor (awaited_statuses plan s) t u ↔ WaitsFor (statuses_of plan s) t u
