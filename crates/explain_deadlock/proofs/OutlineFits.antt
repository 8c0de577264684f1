-- What is known of the end of a run by the outline of its report.
use Rattle.std.proofs.Common.{◌≡◌, ℕ, ◌<◌, ◌^◌, List, arith, length, subst, sym}
use Rattle.armus_base.specs.CheckedPlans.{IsCheckedPlan}
use Rattle.armus_base.specs.declared.ending.Final.{Final}
use Rattle.armus_base.specs.Deadlocks.{IsDeadBy}
use Rattle.armus_base.specs.Finals.{final_of, is_awaited}
use Rattle.armus_base.specs.Plans.{Plan}
use Rattle.armus_base.specs.States.{State}
use Rattle.armus_base.specs.calls.Statuses.{IsInOrder}
use Rattle.armus_base.proofs.StatusesAre.{statuses_are}
use Rattle.explain_facts.specs.RunStates.{IsReachedState}
use Rattle.report.specs.Standings.{AreStandings}
use Rattle.report.specs.declared.standing.Standing.{Standing}
use Rattle.explain_tasks.specs.Facts.{FactsValue}
use Rattle.explain_deadlock.specs.RunEnds.{AreFactsAt, IsAccountOf}
use Rattle.explain_deadlock.proofs.FitsEnds.{fits_plan}

-- the value of a state has its statuses in order
pub final_in_order : (plan : Plan) (s : State) (end : Final) → IsCheckedPlan plan → end ≡ final_of plan s → IsInOrder end.blocked
final_in_order plan s end checked is =
    subst (λ (e : Final). IsInOrder e.blocked) (sym is) (statuses_are plan s (is_awaited plan s) checked).in_order

module _ (plan : Plan) (s : State) (done : ℕ → ℕ) (f : FactsValue) where
  -- what is known where the value of the state is this one, by which tasks stand so
  pub facts_at : (end : Final) (standings : List Standing) → IsAccountOf f.text plan s done f.account → IsReachedState plan s done → end ≡ final_of plan s →
      f.standings ≡ standings → AreStandings (IsDeadBy end.blocked) end.ends standings → AreFactsAt plan s done f
  facts_at end standings account reached is told stand = record {
    account = account;
    reached = reached;
    stand =
        subst (λ (e : Final). AreStandings (IsDeadBy e.blocked) e.ends f.standings) is
        (subst (λ (ss : List Standing). AreStandings (IsDeadBy end.blocked) end.ends ss) (sym told) stand);
  }

  pub few_standings : AreFactsAt plan s done f → IsCheckedPlan plan → length f.standings < 2 ^ 32
  few_standings at checked = let sized = (fits_plan plan s done f at).sized in let few = checked.limits.few_tasks in omega arith
