-- What the loads of a decision on a board tell, before it is stored.
use Rattle.std.specs.Prelude.{List, Option, MatchOption}
use Rattle.armus_base.specs.declared.event.Event.{Event}
use Rattle.armus_base.specs.declared.status.Status.{Status}
use Rattle.armus_base.specs.Deadlocks.{WouldBeDead}
use Rattle.armus_base.specs.Plans.{Aim}
use Rattle.board.specs.calls.Seats.{Known}
use Rattle.board.specs.calls.Views.{task_of}
use Rattle.verdict.specs.declared.found.Cycle.{Cycle}
use Rattle.avoider.specs.calls.Decisions.{ExplainsDeath}
use Rattle.order_graph.specs.calls.Orders.{OrderValue}
use Rattle.avoider.specs.calls.OnBoard.{InEachByLock, Judges}
use Rattle.avoider.specs.inside.Followings.{HoldsOrOtherDead}

-- What the loads of a decision on the own await with this aim tell: the cycle that explains the death of the own task, where it is dead by the statuses, and else
-- that it would be dead in no state that the seat may be in with the lock.
pub record IsJudged (list : List Status) (aim : Aim) (before now : Known) (found : Option Cycle) : Type 0 where
  pub event : Event
  pub supposed : List Status
  pub judges : Judges list aim event supposed before now
  pub told :
      MatchOption found (InEachByLock now (λ s. WouldBeDead s (task_of now.view) event → ⊥)) (ExplainsDeath supposed (task_of before.view))

-- the loads tell this, and an order has followed the statuses
pub record IsJudgedByOrder (list : List Status) (aim : Aim) (before now : Known) (old new : OrderValue) (found : Option Cycle) : Type 0 where
  pub judged : IsJudged list aim before now found
  pub pairs : HoldsOrOtherDead judged.supposed old new found
