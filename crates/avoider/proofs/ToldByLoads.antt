-- What the loads of a decision tell, where a look at the statuses excludes a cycle, and where they are analysed.
use Rattle.std.proofs.Common.{◌≡◌, ℕ, true, List, Option, Some, None, inl, inr}
use Rattle.std.specs.Prelude.{MatchOption}
use Rattle.armus_base.specs.declared.event.Event.{Event}
use Rattle.armus_base.specs.declared.status.Status.{Status}
use Rattle.armus_base.specs.Deadlocks.{IsDeadBy, WouldBeDead}
use Rattle.armus_base.specs.Plans.{Aim, Blocks}
use Rattle.board.specs.calls.Views.{next_action, task_of}
use Rattle.board.specs.calls.Seats.{IsSeat, Known}
use Rattle.phase_scan.specs.calls.Looks.{LoadsAlone}
use Rattle.order_graph.specs.calls.Orders.{OrderValue}
use Rattle.verdict.specs.declared.found.Cycle.{Cycle}
use Rattle.avoider.specs.calls.Decisions.{ExplainsDeath, IsOutcome}
use Rattle.phase_scan.specs.calls.OffCycle.{IsOffCycle}
use Rattle.avoider.specs.calls.OnBoard.{InEachByLock, Judges}
use Rattle.avoider.specs.inside.Followings.{HoldsOrOtherDead}
use Rattle.avoider.specs.inside.Judged.{IsJudged, IsJudgedByOrder}
use Rattle.avoider.proofs.LivesByLoads.{lives_by_statuses, lives_harmless, lives_unimpeded}
use Rattle.avoider.proofs.JudgedLists.{judged}

-- the first of two facts is another one
match_none : {X : Type 0} (P Q : Type 0) (E : X → Type 0) (o : Option X) → (P → Q) → MatchOption o P E → MatchOption o Q E
match_none P Q E None turn is = turn is
match_none P Q E (Some x) turn is = is

module _ (list supposed : List Status) (aim : Aim) (event : Event) (before now : Known) (t : ℕ) (seat : IsSeat before) (own : before.view.own ≡ Some t)
    (locked : before.view.holds ≡ true) (next : next_action before.view ≡ Some (Blocks aim)) (all : LoadsAlone before now)
    (judges : Judges list aim event supposed before now) where
  abbrev Lives : Type 0
  Lives = InEachByLock now (λ s. WouldBeDead s (task_of now.view) event → ⊥)

  by_statuses : (IsDeadBy supposed t → ⊥) → Lives
  by_statuses = lives_by_statuses list aim before now t seat own (seat.lock locked) locked next all event supposed judges

  pub judged_off : IsOffCycle supposed t event → IsJudged list aim before now None
  judged_off off = judged list supposed aim event before now t None own judges (elim off [
    | inl none ↦ by_statuses (lives_unimpeded list aim before now t seat own (seat.lock locked) locked next all event supposed judges none)
    | inr none ↦ lives_harmless list aim before now t seat own (seat.lock locked) locked next all event supposed judges none
  ])

  pub judged_by : (found : Option Cycle) → IsOutcome supposed t found → IsJudged list aim before now found
  judged_by found told = judged list supposed aim event before now t found own judges (match_none (IsDeadBy supposed t → ⊥) Lives (ExplainsDeath supposed t) found by_statuses told)

  pub judged_by_order : (old new : OrderValue) (found : Option Cycle) → IsOutcome supposed t found → HoldsOrOtherDead supposed old new found →
      IsJudgedByOrder list aim before now old new found
  unfolding judged_by judged
  judged_by_order old new found told pairs = record { judged = judged_by found told; pairs = pairs }
