-- A refused task that is a member of nothing has dropped each phaser of which it was a member.
use Rattle.std.proofs.Common.{◌≡◌, ℕ, zero, suc, ◌<◌, ◌≤◌, Option, Some, None, length, arith, ◌∙◌, ap, subst, refl, inl, inr}
use Rattle.std.proofs.lemmas.Bool.{cases_lt}
use Rattle.armus_base.specs.States.{Phases}
use Rattle.armus_base.specs.Places.{done_by, kept, members_below, phases_after, state_at}
use Rattle.armus_base.specs.calls.PlaceLaws.{RefusedHasDropped}
use Rattle.armus_base.proofs.Fixed.{kept_above, members_below-none, members_below-suc, phases_forked}
use Rattle.armus_base.proofs.LawfulPlaces.{HasRoom, has_room}
use Rattle.armus_base.proofs.Reachable.{reachable_is_fixed}

-- where more than d phasers with numbers below k have it as a member, one of them is not among the first d
one_above : (m : Phases) (d k : ℕ) → d < members_below m k → (p : ℕ) × (n : ℕ) × m p ≡ Some n × d ≤ members_below m p
one_above m d zero l = absurd (omega arith)
one_above m d (suc k) l = by_phase (λ less. one_above m d k less) (m k) refl
  where
    by_phase :
        (d < members_below m k → (p : ℕ) × (n : ℕ) × m p ≡ Some n × d ≤ members_below m p) → (o : Option ℕ) → m k ≡ o →
        (p : ℕ) × (n : ℕ) × m p ≡ Some n × d ≤ members_below m p
    by_phase before None is = before (let same = members_below-none m k is in omega arith)
    by_phase before (Some n) is = (k, n, is, (let same = members_below-suc m k n is in omega arith))

pub refused_has_dropped : RefusedHasDropped
refused_has_dropped plan a t d checked reach dropped gone =
    let at = reachable_is_fixed plan a checked reach in
    let m = phases_after plan t (a t).done in
    let room : d ≤ members_below m (length plan.makers) =
    (subst (λ v. HasRoom plan t v.done v.dropped) (reach.there t) (has_room plan checked reach.steps reach.run t)).1 d dropped in
    elim (cases_lt d (members_below m (length plan.makers))) [
      | inl less ↦
          let one = one_above m d (length plan.makers) less in
          let forked = (at.1.refused t d dropped).0 in
          let here : (state_at plan a).phases t one.0 ≡ kept (Some d) m one.0 =
          ap (λ f. kept (a t).dropped f one.0) (phases_forked plan checked (done_by a) t forked) ∙ ap (λ o. kept o m one.0) dropped in
          absurd (let none = gone one.0 in let some = kept_above d one.0 m one.3 in let there = one.2 in cc)
      | inr most ↦ omega arith
    ]
