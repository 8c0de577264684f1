-- Worlds that follow a run: their states, and who is published in them.
use Rattle.std.proofs.Common.{◌≡◌, ◌≢◌, ◌∙◌, ℕ, true, List, Option, Some, None, sym, ap, refl, arith}
use Rattle.armus_base.specs.declared.event.Event.{Event}
use Rattle.armus_base.specs.CheckedPlans.{IsCheckedPlan}
use Rattle.armus_base.specs.Places.{state_at, published_after}
use Rattle.armus_base.specs.Runs.{IsReachable, state_after}
use Rattle.armus_base.specs.States.{Step}
use Rattle.armus_base.proofs.FoundArePublished.{not_both}
use Rattle.armus_base.proofs.Published.{published_after_is, published_passes}
use Rattle.armus_base.proofs.Reachable.{reachable_is_fixed}
use Rattle.armus_base.proofs.Stepping.{places_fix}
use Rattle.pl_core.specs.declared.stand.Stand.{Stand}
use Rattle.pl_core.specs.declared.stand.Stand.TheVariants.{Unforked, Done, Refused, Ready, Await, Waits}
use Rattle.pl_core.specs.calls.Stands.{StandsSo}
use Rattle.pl_core.specs.calls.Worlds.{WorldValue, places_of, state_of, action_by_code}
use Rattle.schedule.specs.inside.Following.{IsAt}

-- the state of a world that follows a run
pub state_is : (w : WorldValue) (h : List Step) → IsAt w h → state_of w ≡ state_after h
unfolding state_of
state_is w h at = ap (state_at w.plan) at.there ∙ sym (places_fix w.plan at.checked h at.run.0).0

-- where the state has a published task, that task is forked, its code goes on, and it is not refused
module _ (w : WorldValue) (t : ℕ) (checked : IsCheckedPlan w.plan) (reachable : IsReachable w.plan (places_of w)) (e : Event) (on : (state_of w).published t ≡ Some e) where
  at : published_after w.plan t (places_of w t).done ≡ Some e
  unfolding state_of
  at = on

  is_forked : (state_of w).forked t ≡ true
  unfolding state_of
  is_forked =
      let begun = (published_after_is w.plan t (places_of w t).done e at).1 in
      (reachable_is_fixed w.plan (places_of w) checked reachable).1.begun t (omega arith)

  goes_on : action_by_code w t ≢ None
  goes_on ended =
      let passes = published_passes w.plan t (places_of w t).done e at in
      cc

  not_refused : (f : Event) → (state_of w).refused t ≢ Some f
  unfolding state_of
  not_refused f refused = not_both w.plan (places_of w) (reachable_is_fixed w.plan (places_of w) checked reachable).1 t e f on refused

  -- so it waits
  waits : (stand : Stand) → StandsSo w t stand → ((f : Event) → stand ≢ Waits f) → ⊥
  waits Unforked stands other = (let f = is_forked in cc)
  waits Done stands other = goes_on stands.1
  waits (Refused f) stands other = not_refused f stands
  waits Ready stands other = (let n = stands.0.unpublished in cc)
  waits (Await f) stands other = (let n = stands.0.unpublished in cc)
  waits (Waits f) stands other = other f refl

-- a task that does not wait is not published
pub unpublished : (w : WorldValue) (t : ℕ) (stand : Stand) → IsCheckedPlan w.plan → IsReachable w.plan (places_of w) → StandsSo w t stand
    → ((f : Event) → stand ≢ Waits f) → None ≡ (state_of w).published t
unpublished w t stand checked reachable stands other = go ((state_of w).published t) refl
  where
    go : (o : Option Event) → (state_of w).published t ≡ o → None ≡ o
    go None is = refl
    go (Some e) is = absurd (waits w t checked reachable e is stand stands other)
