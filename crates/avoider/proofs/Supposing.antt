-- The state in which a task has published its await, and who is dead by its statuses.
use Rattle.std.proofs.Common.{◌≡◌, ℕ, ◌<◌, Some, length, sym, subst, inl, inr}
use Rattle.std.specs.Prelude.{◌↔◌}
use Rattle.armus_base.specs.declared.event.Event.{Event}
use Rattle.armus_base.specs.CheckedPlans.{IsCheckedPlan}
use Rattle.armus_base.specs.Deadlocks.{IsDeadBy, WouldBeDead}
use Rattle.armus_base.specs.calls.FinalLaws.{IsOfPlan}
use Rattle.armus_base.specs.Finals.{is_awaited}
use Rattle.armus_base.specs.Plans.{Aim, Blocks}
use Rattle.armus_base.specs.Runs.{IsReachable}
use Rattle.armus_base.specs.States.{awaited, if_published}
use Rattle.armus_base.specs.calls.Statuses.{IsInOrder}
use Rattle.armus_base.proofs.Codes.{awaited_is}
use Rattle.armus_base.proofs.DeadByStatuses.{dead_by_final, run_is_of_plan}
use Rattle.armus_base.proofs.Reachable.{reachable_is_fixed}
use Rattle.armus_base.proofs.StatusesAre.{statuses_are}
use Rattle.armus_base.proofs.Steps.{updated_is}
use Rattle.pl_core.specs.calls.Stands.{IsAtAwaitOf}
use Rattle.pl_core.specs.calls.Awaiting.{awaited_statuses}
use Rattle.pl_core.specs.calls.Worlds.{WorldValue, action_by_code, places_of, state_of}
use Rattle.pl_core.proofs.Bounds.{phaser_of_member}
use Rattle.pl_core.proofs.StepKinds.{awaits_block}

-- who stands at an await of an event goes on with a block that publishes the event
pub blocks_next :
    (w : WorldValue) (t : ℕ) (e : Event) → IsAtAwaitOf w t e →
    (aim : Aim) × (action_by_code w t ≡ Some (Blocks aim)) × awaited (Some (Blocks aim)) ((state_of w).phases t) ≡ Some e
blocks_next w t e before = awaits_block (action_by_code w t) ((state_of w).phases t) e before.1

-- the state of a world is one of its plan
pub of_plan : (w : WorldValue) → IsCheckedPlan w.plan → IsReachable w.plan (places_of w) → IsOfPlan w.plan (state_of w)
unfolding state_of
of_plan w checked reach = subst (IsOfPlan w.plan) (reachable_is_fixed w.plan (places_of w) checked reach).0 (run_is_of_plan w.plan reach.steps checked reach.run)

module _ (w : WorldValue) (checked : IsCheckedPlan w.plan) (reach : IsReachable w.plan (places_of w)) (t : ℕ) (task : t < length w.plan.parents) (e : Event) where
  pub supposed_of_plan : IsOfPlan w.plan (if_published (state_of w) t e)
  supposed_of_plan = record {
    published = λ u f p.
        elim (updated_is (state_of w).published t u (Some e) (Some f) p) [
          | inl own ↦ subst (λ v. v < length w.plan.parents) (sym own.0) task
          | inr other ↦ (of_plan w checked reach).published u f other.1
        ];
    member = (of_plan w checked reach).member;
    phaser = (of_plan w checked reach).phaser;
  }

  -- the statuses tell whether the task would be dead
  pub told_by_statuses : IsDeadBy (awaited_statuses w.plan (if_published (state_of w) t e)) t ↔ WouldBeDead (state_of w) t e
  told_by_statuses = dead_by_final w.plan (if_published (state_of w) t e) t supposed_of_plan

pub supposed_in_order : (w : WorldValue) → IsCheckedPlan w.plan → (t : ℕ) (e : Event) → IsInOrder (awaited_statuses w.plan (if_published (state_of w) t e))
supposed_in_order w checked t e = (statuses_are w.plan (if_published (state_of w) t e) (is_awaited w.plan (if_published (state_of w) t e)) checked).in_order

-- the phaser of the event of an await is one of the plan
pub phaser_of_await : (w : WorldValue) → IsCheckedPlan w.plan → IsReachable w.plan (places_of w) → (t : ℕ) (e : Event) → IsAtAwaitOf w t e → e.p.0 < length w.plan.makers
phaser_of_await w checked reach t e before =
    let block = blocks_next w t e before in
    let is = awaited_is block.0 ((state_of w).phases t) e block.2 in
    subst (λ p. p < length w.plan.makers) (sym is.0) (phaser_of_member w checked reach t block.0.phaser is.1.0 is.1.1)
