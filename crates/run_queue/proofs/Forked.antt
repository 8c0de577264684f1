-- Which tasks are forked, by how they stand, and that a step leaves them so.
use Rattle.std.proofs.Common.{◌≡◌, ℕ, true, Option, Some, None, ◌∙◌, ap, refl, inl, inr, arith}
use Rattle.std.proofs.lemmas.Bool.{cases_eq}
use Rattle.armus_base.specs.declared.event.Event.{Event}
use Rattle.armus_base.specs.CheckedPlans.{IsCheckedPlan}
use Rattle.armus_base.specs.calls.Places.{IsConsistent}
use Rattle.armus_base.specs.Places.{done_by, forked_at, refused_at}
use Rattle.armus_base.specs.Plans.{Action, Advances, Blocks, Drops, Forks, Makes, Passes, Refuses, Registers}
use Rattle.armus_base.specs.Runs.{IsReachable}
use Rattle.armus_base.specs.States.{State, after}
use Rattle.armus_base.proofs.Published.{published_after_is}
use Rattle.armus_base.proofs.Reachable.{reachable_is_fixed}
use Rattle.armus_base.proofs.Steps.{updated_same, updated_other}
use Rattle.pl_core.specs.declared.stand.Stand.{Stand}
use Rattle.pl_core.specs.declared.stand.Stand.TheVariants.{Unforked, Done, Refused, Ready, Await, Waits}
use Rattle.pl_core.specs.calls.Stands.{StandsSo}
use Rattle.pl_core.specs.calls.Worlds.{WorldValue, places_of, state_of}

module _ (w : WorldValue) (checked : IsCheckedPlan w.plan) (reach : IsReachable w.plan (places_of w)) where
  consistent_there : IsConsistent w.plan (places_of w)
  consistent_there = (reachable_is_fixed w.plan (places_of w) checked reach).1

  forked_when_refused : (t : ℕ) (e : Event) → (state_of w).refused t ≡ Some e → (state_of w).forked t ≡ true
  unfolding state_of
  forked_when_refused t e is = go (places_of w t).dropped refl
    where
      go : (o : Option ℕ) → (places_of w t).dropped ≡ o → forked_at w.plan (done_by (places_of w)) t ≡ true
      go None none = absurd (let no : refused_at w.plan t (places_of w t).done (places_of w t).dropped ≡ None = ap (refused_at w.plan t (places_of w t).done) none in cc)
      go (Some q) some = (consistent_there.refused t q some).0

  forked_when_published : (t : ℕ) (e : Event) → (state_of w).published t ≡ Some e → (state_of w).forked t ≡ true
  unfolding state_of
  forked_when_published t e is =
      let at = published_after_is w.plan t (places_of w t).done e is in
      consistent_there.begun t (let more = at.1 in omega arith)

  -- who does not stand unforked is forked
  pub forked_by_stand : (t : ℕ) (stand : Stand) → StandsSo w t stand → (stand ≡ Unforked → ⊥) → (state_of w).forked t ≡ true
  forked_by_stand t Unforked so other = absurd (other refl)
  forked_by_stand t Done so other = so.0
  forked_by_stand t (Refused e) so other = forked_when_refused t e so
  forked_by_stand t Ready so other = so.0.forked
  forked_by_stand t (Await e) so other = so.0.forked
  forked_by_stand t (Waits e) so other = forked_when_published t e so

-- no step takes a fork back
pub forked_after : (s : State) (u : ℕ) (x : Action) (t : ℕ) → s.forked t ≡ true → (after s u x).forked t ≡ true
forked_after s u (Makes q) t is = is
forked_after s u (Registers c q) t is = is
forked_after s u (Forks c) t is =
    elim (cases_eq t c) [
      | inl same ↦ updated_same s.forked c t true same
      | inr other ↦ updated_other s.forked c t true other ∙ is
    ]
forked_after s u (Advances q) t is = is
forked_after s u (Drops q) t is = is
forked_after s u (Blocks q) t is = is
forked_after s u (Passes q) t is = is
forked_after s u (Refuses q) t is = is
