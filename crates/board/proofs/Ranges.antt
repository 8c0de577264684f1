-- The phases and events of a checked plan are small.
use Rattle.std.proofs.Common.{◌≡◌, ℕ, suc, ◌<◌, ◌≤◌, Option, Some, None, length, sym, refl, ap, ◌∙◌, arith, inl, inr}
use Rattle.std.specs.Prelude.{sum_by}
use Rattle.std.proofs.lemmas.Bool.{cases_eq}
use Rattle.armus_base.specs.calls.Limits.{max_awaited}
use Rattle.armus_base.specs.Limits.{max_ops, max_phasers}
use Rattle.armus_base.specs.declared.event.Event.{Event}
use Rattle.armus_base.specs.Plans.{Blocks, Plan, action_at, parent_of}
use Rattle.armus_base.specs.Runs.{Place}
use Rattle.armus_base.specs.Places.{done_by, first_phases, phases_after, phases_at, published_after, refused_at, registered_by, state_at}
use Rattle.armus_base.specs.CheckedPlans.{IsCheckedPlan}
use Rattle.armus_base.specs.calls.Seats.{found_by}
use Rattle.armus_base.proofs.Fixed.{phases_begun, phases_idle}
use Rattle.armus_base.proofs.Published.{kept_is, published_after_is}
use Rattle.armus_base.proofs.MemberPhasers.{phaser_of_member, registered_keep}
use Rattle.armus_base.proofs.PhasesFit.{awaited_phases_fit, phases_fit}
use Rattle.board.specs.calls.Words.{IsInRange, found_in}

module _ (plan : Plan) (checked : IsCheckedPlan plan) where
  few_ops : (n : ℕ) → n ≤ sum_by length plan.codes → n ≤ max_ops
  few_ops n l = (let m = checked.limits.few_ops in omega arith)

  registered_fit : (u c k p n : ℕ) → registered_by plan u c k p ≡ Some n → n ≤ max_ops
  unfolding registered_by phases_after
  registered_fit u c k p n e =
      registered_keep (λ p n. n ≤ max_ops) (action_at plan u) (first_phases plan u) (λ j q m f. few_ops m (phases_fit plan u j q m checked f)) c k p n e

  -- every phase in a state is small
  pub phases_small : (a : ℕ → Place) (t p n : ℕ) → (state_at plan a).phases t p ≡ Some n → n ≤ max_ops
  phases_small a t p n e =
      let was : phases_at plan (done_by a) t p ≡ Some n = kept_is (a t).dropped (phases_at plan (done_by a) t) p n e in
      elim (cases_eq (done_by a t) 0) [
        | inl z ↦ registered_fit (parent_of plan t) t (done_by a (parent_of plan t)) p n (ap (λ g. g p) (sym (phases_idle plan checked (done_by a) t z)) ∙ was)
        | inr ne ↦ few_ops n (phases_fit plan t (done_by a t) p n checked (ap (λ g. g p) (sym (phases_begun plan checked (done_by a) t ne)) ∙ was))
      ]

  -- an event that stands published is one of the plan, and small
  published_small : (t k : ℕ) (e : Event) → published_after plan t k ≡ Some e → (e.p.0 < max_phasers) × (e.n ≤ max_awaited)
  published_small t k e is =
      let by = published_after_is plan t k e is in
      let member = (checked.codes.well_formed t by.0 (Blocks by.2) by.4).0 in
      let within = phaser_of_member plan checked t by.0 by.2.phaser member.0 member.1 in
      let few = checked.limits.few_phasers in
      let same = by.3 in
      let fits = awaited_phases_fit plan t k e checked is in
      let ops = checked.limits.few_ops in
      (omega arith, omega arith)

  -- and so is one at which a task is refused, which it would have published next
  refused_small : (t k : ℕ) (o : Option ℕ) (e : Event) → refused_at plan t k o ≡ Some e → (e.p.0 < max_phasers) × (e.n ≤ max_awaited)
  refused_small t k None e is = absurd (cc)
  refused_small t k (Some d) e is = published_small t (suc k) e is

  -- so an await word says no other
  pub found_small : (a : ℕ → Place) (t : ℕ) → IsInRange (found_in (state_at plan a) t)
  found_small a t = by_case (published_after plan t (a t).done) refl (refused_at plan t (a t).done (a t).dropped) refl
    where
      by_case : (o : Option Event) → published_after plan t (a t).done ≡ o → (r : Option Event) → refused_at plan t (a t).done (a t).dropped ≡ r → IsInRange (found_by o r)
      by_case (Some e) is r ris = published_small t (a t).done e is
      by_case None is (Some e) ris = refused_small t (a t).done (a t).dropped e ris
      by_case None is None ris = tt
