-- What the ends of a final value say.
use Rattle.std.proofs.Common.{◌≡◌, ℕ, ◌<◌, Bool, true, false, Option, Some, None, List, length, arith, sym, ◌∙◌, ap, subst, refl}
use Rattle.std.specs.Prelude.{IsSome}
use Rattle.std.proofs.lemmas.Bool.{false≢true}
use Rattle.armus_base.specs.declared.event.Event.{Event}
use Rattle.armus_base.specs.CheckedPlans.{IsCheckedPlan}
use Rattle.armus_base.specs.calls.FinalLaws.{EndsAre, EndsTell, Tells}
use Rattle.armus_base.specs.Finals.{end_by, end_of}
use Rattle.armus_base.specs.calls.Places.{IsConsistent}
use Rattle.armus_base.specs.Places.{published_after, refused_at, state_at}
use Rattle.armus_base.specs.Plans.{Passes, Plan, action_at}
use Rattle.armus_base.specs.Runs.{HasEnded, IsLegalRun, is_done, is_refused, is_waiting, places, state_after}
use Rattle.armus_base.specs.States.{IsReached, Step}
use Rattle.armus_base.proofs.Below.{length-list_below, list_below-at}
use Rattle.armus_base.proofs.FoundArePublished.{not_both}
use Rattle.armus_base.proofs.Published.{published_after_is, published_passes}
use Rattle.armus_base.proofs.Stepping.{places_fix}

pub ends_are : EndsAre
ends_are plan s = record {
  counted = length-list_below (end_of s) (length plan.parents);
  each = λ t l. list_below-at (end_of s) (length plan.parents) t l;
}

module _ (plan : Plan) (checked : IsCheckedPlan plan) (h : List Step) (run : IsLegalRun plan h) where
  fixed : (state_after h ≡ state_at plan (places h)) × IsConsistent plan (places h)
  fixed = places_fix plan checked h run

  -- a published task is forked, and its code goes on with the pass
  pub published_tells : (t : ℕ) (e : Event) → (state_after h).published t ≡ Some e → (state_after h).forked t ≡ true × action_at plan t (places h t).done ≡ Some (Passes e.p.0)
  published_tells t e is =
      let published : published_after plan t (places h t).done ≡ Some e = sym (ap (λ s. s.published t) fixed.0) ∙ is in
      let at = published_after_is plan t (places h t).done e published in
      let begun : 0 < (places h t).done = (let more = at.1 in omega arith) in
      (ap (λ s. s.forked t) fixed.0 ∙ fixed.1.begun t begun, published_passes plan t (places h t).done e published)

  -- a refused task is forked, and its code goes on with an await
  refused_tells : (t : ℕ) (e : Event) → (state_after h).refused t ≡ Some e → (state_after h).forked t ≡ true × (action_at plan t (places h t).done ≡ None → ⊥)
  refused_tells t e is = go (places h t).dropped refl (sym (ap (λ s. s.refused t) fixed.0) ∙ is)
    where
      go :
          (o : Option ℕ) → (places h t).dropped ≡ o → refused_at plan t (places h t).done o ≡ Some e →
          (state_after h).forked t ≡ true × (action_at plan t (places h t).done ≡ None → ⊥)
      go None same none = absurd (cc)
      go (Some q) same refused =
          let at = fixed.1.refused t q same in
          (ap (λ s. s.forked t) fixed.0 ∙ at.0, λ none. let next = at.1.1 in absurd (cc))

  -- not both published and refused
  never_both : (t : ℕ) (e f : Event) → (state_after h).published t ≡ Some e → (state_after h).refused t ≡ Some f → ⊥
  never_both t e f published refused =
      not_both plan (places h) fixed.1 t e f (sym (ap (λ s. s.published t) fixed.0) ∙ published) (sym (ap (λ s. s.refused t) fixed.0) ∙ refused)

  some_both : (t : ℕ) (e : Event) → (state_after h).published t ≡ Some e → (o : Option Event) → (state_after h).refused t ≡ o → IsSome o → ⊥
  some_both t e is None refused some = false≢true some
  some_both t e is (Some f) refused some = never_both t e f is refused

  blocked_waits :
      (t : ℕ) (e : Event) → (state_after h).published t ≡ Some e → HasEnded plan (state_after h) (places h t) t → IsReached (state_after h) e → ⊥
  blocked_waits t e is (is_done none) reached = (let next = (published_tells t e is).1 in absurd (cc))
  blocked_waits t e is (is_waiting f also unreached) reached =
      unreached (subst (λ v. IsReached (state_after h) v) (let both : Some e ≡ Some f = sym is ∙ also in cc) reached)
  blocked_waits t e is (is_refused some left) reached = some_both t e is ((state_after h).refused t) refl some

  refused_left :
      (t : ℕ) (e : Event) → (state_after h).refused t ≡ Some e → HasEnded plan (state_after h) (places h t) t → (p : ℕ) → (state_after h).phases t p ≡ None
  refused_left t e is (is_done none) p = absurd ((refused_tells t e is).1 none)
  refused_left t e is (is_waiting f also unreached) p = absurd (never_both t f e also is)
  refused_left t e is (is_refused some left) p = left p

  done_tells :
      (t : ℕ) → (state_after h).published t ≡ None → (state_after h).refused t ≡ None → HasEnded plan (state_after h) (places h t) t →
      action_at plan t (places h t).done ≡ None
  done_tells t published refused (is_done none) = none
  done_tells t published refused (is_waiting f also unreached) = absurd (cc)
  done_tells t published refused (is_refused some left) = absurd (false≢true (subst IsSome refused some))

  -- each end says how its task stands
  tells :
      (t : ℕ) → ((state_after h).forked t ≡ true → HasEnded plan (state_after h) (places h t) t) → (b : Bool) → (state_after h).forked t ≡ b →
      (p : Option Event) → (state_after h).published t ≡ p → (r : Option Event) → (state_after h).refused t ≡ r → Tells plan h t (end_by b p r)
  tells t ended b forked (Some e) published r refused = (published, blocked_waits t e published (ended (published_tells t e published).0))
  tells t ended b forked None published (Some e) refused = (refused, refused_left t e refused (ended (refused_tells t e refused).0))
  tells t ended true forked None published None refused = (forked, done_tells t published refused (ended forked))
  tells t ended false forked None published None refused = forked

pub ends_tell : EndsTell
ends_tell plan h t checked run maximal =
    tells plan checked h run t (maximal t) ((state_after h).forked t) refl ((state_after h).published t) refl ((state_after h).refused t) refl
