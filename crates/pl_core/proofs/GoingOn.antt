-- Which tasks may go on.
use Rattle.std.proofs.Common.{◌≡◌, ℕ, ◌<◌, ◌≤◌, Option, Some, None, length, arith, sym, ◌∙◌, ap, subst, refl}
use Rattle.std.specs.Prelude.{◌↔◌}
use Rattle.std.proofs.lemmas.Bool.{false≢true}
use Rattle.armus_base.specs.declared.event.Event.{Event}
use Rattle.armus_base.specs.Limits.{max_ops}
use Rattle.armus_base.specs.Plans.{Action, Aim, Blocks, Passes}
use Rattle.armus_base.specs.States.{IsActive, IsLegal, IsMember, IsReached}
use Rattle.armus_base.specs.Runs.{IsReachable}
use Rattle.armus_base.specs.calls.Places.{IsConsistent}
use Rattle.armus_base.specs.Places.{refused_at}
use Rattle.armus_base.specs.CheckedPlans.{IsCheckedPlan}
use Rattle.armus_base.proofs.Members.{only_passes, published_member}
use Rattle.armus_base.proofs.NextIsLegal.{next_legal, unrefused_undropped}
use Rattle.armus_base.proofs.Published.{published_after_is, published_passes, published_undropped}
use Rattle.armus_base.proofs.Reachable.{reachable_is_fixed}
use Rattle.armus_base.proofs.Stepping.{acting_forked}
use Rattle.pl_core.specs.declared.stand.Stand.{Stand}
use Rattle.pl_core.specs.declared.stand.Stand.TheVariants.{Unforked, Done, Refused, Ready, Await, Waits}
use Rattle.pl_core.specs.calls.Stands.{IsEnabled, MayGoOn, StandsSo}
use Rattle.pl_core.specs.calls.Worlds.{WorldValue, action_by_code, places_of, state_of}
use Rattle.pl_core.proofs.Bounds.{phase_fits, phaser_of_member}
use Rattle.pl_core.proofs.StepKinds.{awaits_block}

module _ (w : WorldValue) (checked : IsCheckedPlan w.plan) (reach : IsReachable w.plan (places_of w)) where
  consistent_there : IsConsistent w.plan (places_of w)
  consistent_there = (reachable_is_fixed w.plan (places_of w) checked reach).1

  pub legal_when_active : (t : ℕ) (x : Action) → IsActive (state_of w) t → action_by_code w t ≡ Some x → IsLegal w.plan (state_of w) t x
  unfolding state_of
  legal_when_active t x active next = next_legal w.plan checked (places_of w) consistent_there t x active next

  -- the phase of an active task leaves room for what it awaits
  pub phase_when_active : (t p n : ℕ) → IsActive (state_of w) t → (state_of w).phases t p ≡ Some n → n ≤ max_ops
  unfolding state_of
  phase_when_active t p n active e =
      phase_fits w checked t p n active.forked (unrefused_undropped w.plan checked (places_of w) consistent_there t active.unrefused) e

  -- a waiting task passes next, if its event is reached
  pub passes_when_waiting : (t : ℕ) (e : Event) → (state_of w).published t ≡ Some e → action_by_code w t ≡ Some (Passes e.p.0)
  unfolding state_of
  passes_when_waiting t e p =
      published_passes w.plan t (places_of w t).done e p

  pub legal_when_reached : (t : ℕ) (e : Event) → (state_of w).published t ≡ Some e → IsReached (state_of w) e → IsLegal w.plan (state_of w) t (Passes e.p.0)
  unfolding state_of
  legal_when_reached t e p reached =
      let is = published_after_is w.plan t (places_of w t).done e p in (
        consistent_there.begun t (let s = is.1 in omega arith),
        e.n,
        p,
        reached,
        ap (refused_at w.plan t (places_of w t).done) (published_undropped w.plan (places_of w) consistent_there t e p),
      )

  reached_when_legal : (t : ℕ) (e : Event) (x : Action) → (state_of w).published t ≡ Some e → IsLegal w.plan (state_of w) t x → IsReached (state_of w) e
  reached_when_legal t e x p legal = (only_passes w.plan (state_of w) t x e legal p).1

  -- a refused task does no more of its code
  no_more_code : (t : ℕ) (e : Event) → (state_of w).refused t ≡ Some e → IsEnabled w t → ⊥
  unfolding state_of
  no_more_code t e r enabled = go (places_of w t).dropped refl
    where
      go : (o : Option ℕ) → (places_of w t).dropped ≡ o → ⊥
      go None h = absurd (let none : refused_at w.plan t (places_of w t).done (places_of w t).dropped ≡ None = ap (refused_at w.plan t (places_of w t).done) h in cc)
      go (Some q) h =
          let stands = consistent_there.refused t q h in
          let is : enabled.0 ≡ Blocks stands.1.0 = (let two : Some enabled.0 ≡ Some (Blocks stands.1.0) = sym enabled.1 ∙ stands.1.1 in cc) in
          let legal = subst (λ y. IsLegal w.plan (state_of w) t y) is enabled.2 in
          absurd (let none = legal.0.unrefused in cc)

  -- exactly those that stand so
  pub goes_on : (t : ℕ) (stand : Stand) → StandsSo w t stand → IsEnabled w t ↔ MayGoOn (state_of w) stand
  goes_on t Unforked so = (λ enabled. absurd (let f = acting_forked w.plan (state_of w) t enabled.0 enabled.2 in false≢true (sym so ∙ f)), λ h. absurd h)
  goes_on t Done so = (λ enabled. absurd (let n = so.1 in let s = enabled.1 in cc), λ h. absurd h)
  goes_on t (Refused e) so = (λ enabled. no_more_code t e so enabled, λ h. absurd h)
  goes_on t Ready so = (λ _. tt, λ _. (so.1, so.2, legal_when_active t so.1 so.0 so.2))
  goes_on t (Await e) so =
      let blocks = awaits_block (action_by_code w t) ((state_of w).phases t) e so.1 in
      (λ _. tt, λ _. (Blocks blocks.0, blocks.1, legal_when_active t (Blocks blocks.0) so.0 blocks.1))
  goes_on t (Waits e) so =
      (λ enabled. reached_when_legal t e enabled.0 so enabled.2, λ reached. (Passes e.p.0, passes_when_waiting t e so, legal_when_reached t e so reached))

  -- a waiting task is a member of its event's phaser
  pub member_when_waiting : (t : ℕ) (e : Event) → (state_of w).published t ≡ Some e → IsMember (state_of w) t e.p.0
  unfolding state_of
  member_when_waiting t e p =
      let at = (reachable_is_fixed w.plan (places_of w) checked reach).0 in
      let member = published_member w.plan reach.steps reach.run t e (ap (λ s. s.published t) at ∙ p) in
      (member.0, ap (λ s. s.phases t e.p.0) (sym at) ∙ member.1)

  -- the phaser of an event on which a task is published, and one at which it awaits
  pub phaser_of_awaited : (t : ℕ) (aim : Aim) → IsLegal w.plan (state_of w) t (Blocks aim) → aim.phaser < length w.plan.makers
  phaser_of_awaited t aim legal = phaser_of_member w checked reach t aim.phaser legal.1.0 legal.1.1

  pub phaser_of_waiting : (t : ℕ) (e : Event) → (state_of w).published t ≡ Some e → e.p.0 < length w.plan.makers
  phaser_of_waiting t e p =
      let member = member_when_waiting t e p in
      phaser_of_member w checked reach t e.p.0 member.0 member.1
