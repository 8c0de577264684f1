-- Where no task can go on and none is refused, a maximal plain run has ended.
use Rattle.std.proofs.Common.{◌≡◌, ℕ, ◌<◌, true, false, List, [], ◌∷◌, Option, Some, None, length, sym, ◌∙◌, ap, subst, refl, inl, inr}
use Rattle.std.specs.Prelude.{slice_get}
use Rattle.std.proofs.lemmas.Bool.{cases_eq, cases_lt}
use Rattle.armus_base.specs.declared.event.Event.{Event}
use Rattle.armus_base.specs.Finals.{final_of}
use Rattle.armus_base.specs.Plans.{Aim, Action, Passes, Plan, Refuses, Drops}
use Rattle.armus_base.specs.States.{IsActive, Step}
use Rattle.armus_base.specs.Runs.{HasEnded, IsFinal, IsLegalRun, IsMaximal, IsPlain, IsPlainRun, IsReachable, is_done, is_waiting, next_place, places, state_after}
use Rattle.armus_base.specs.Places.{refused_at}
use Rattle.armus_base.specs.CheckedPlans.{IsCheckedPlan}
use Rattle.armus_base.proofs.OneEnd.{one_end}
use Rattle.armus_base.proofs.Reachable.{reachable_is_fixed}
use Rattle.armus_base.proofs.Steps.{updated_same, updated_other}
use Rattle.armus_base.proofs.Tasks.{no_action}
use Rattle.pl_core.specs.declared.place.Place.{Place as KeptPlace}
use Rattle.pl_core.specs.calls.Stands.{IsEnabled}
use Rattle.pl_core.specs.calls.Worlds.{WorldValue, dropped_at, action_by_code, place_from, places_at, places_of, state_of}
use Rattle.pl_core.proofs.GoingOn.{legal_when_active, legal_when_reached, passes_when_waiting}
use Rattle.world_runs.specs.calls.PlainRuns.{IsPlainEnd}
use Rattle.world_runs.specs.inside.Turns.{NobodyRefused}

-- a run after which nobody is refused refuses nobody
pub unrefused_plain : (plan : Plan) (h : List Step) → IsLegalRun plan h → ((t : ℕ) → (places h t).dropped ≡ None) → IsPlain h
unrefused_plain plan [] run none = tt
unrefused_plain plan (e ∷ h) run none = (unrefused_plain plan h run.0 before, λ p is. refuses p is)
  where
    own : (next_place (places h e.task).done (places h e.task).dropped e.action).dropped ≡ None
    own =
        ap (λ v. v.dropped) (sym (updated_same (places h) e.task e.task (next_place (places h e.task).done (places h e.task).dropped e.action) refl))
        ∙ none e.task

    stays : (k : ℕ) (o : Option ℕ) (x : Action) → (next_place k o x).dropped ≡ None → o ≡ None
    stays k None x n = refl
    stays k (Some d) (Drops p) n = absurd (cc)
    stays k (Some d) x n = absurd (cc)

    before : (t : ℕ) → (places h t).dropped ≡ None
    before t =
        elim (cases_eq t e.task) [
          | inl same ↦ subst (λ v. (places h v).dropped ≡ None) (sym same) (stays (places h e.task).done (places h e.task).dropped e.action own)
          | inr other ↦
              ap (λ v. v.dropped) (sym (updated_other (places h) e.task t (next_place (places h e.task).done (places h e.task).dropped e.action) other)) ∙ none t
        ]

    refuses : (aim : Aim) → e.action ≡ Refuses aim → ⊥
    refuses aim is =
        absurd (let refused : (next_place (places h e.task).done None (Refuses aim)).dropped ≡ None =
        subst (λ x. (next_place (places h e.task).done None x).dropped ≡ None) is
        (subst (λ o. (next_place (places h e.task).done o e.action).dropped ≡ None) (before e.task) own) in cc)

-- whose flag is false has dropped nothing
undropped_from : (plan : Plan) (t : ℕ) (o : Option KeptPlace) → ((a : KeptPlace) → o ≡ Some a → a.refused ≡ false) → (place_from plan t o).dropped ≡ None
undropped_from plan t None h = refl
undropped_from plan t (Some a) h = ap (dropped_at plan t a.events) (h a refl)

pub undropped_all : (w : WorldValue) → NobodyRefused w → (t : ℕ) → (places_of w t).dropped ≡ None
unfolding places_at
undropped_all w plain t = undropped_from w.plan t (slice_get w.places t) (plain t)

module _ (w : WorldValue) (checked : IsCheckedPlan w.plan) (reach : IsReachable w.plan (places_of w)) (plain : NobodyRefused w)
    (quiet : (t : ℕ) → t < length w.plan.parents → IsEnabled w t → ⊥) where
  unrefused_all : (t : ℕ) → (state_of w).refused t ≡ None
  unfolding state_of
  unrefused_all t = ap (refused_at w.plan t (places_of w t).done) (undropped_all w plain t)

  -- a forked task of the plan that may not go on has come to an end
  ended_here : (t : ℕ) → ((IsEnabled w t) → ⊥) → (state_of w).forked t ≡ true → HasEnded w.plan (state_of w) (places_of w t) t
  ended_here t stuck forked = by_published ((state_of w).published t) refl
    where
      by_next : (state_of w).published t ≡ None → (o : Option Action) → action_by_code w t ≡ o → HasEnded w.plan (state_of w) (places_of w t) t
      by_next none None e = is_done e
      by_next none (Some x) e =
          let active : IsActive (state_of w) t = record { forked = forked; unpublished = none; unrefused = unrefused_all t } in
          absurd (stuck (x, e, legal_when_active w checked reach t x active e))

      by_published : (o : Option Event) → (state_of w).published t ≡ o → HasEnded w.plan (state_of w) (places_of w t) t
      by_published None e = by_next e (action_by_code w t) refl
      by_published (Some event) e =
          is_waiting event e (λ reached. stuck (Passes event.p.0, passes_when_waiting w checked reach t event e, legal_when_reached w checked reach t event e reached))

  ended : (t : ℕ) → (state_of w).forked t ≡ true → HasEnded w.plan (state_of w) (places_of w t) t
  ended t forked =
      elim (cases_lt t (length w.plan.parents)) [
        | inl l ↦ ended_here t (quiet t l) forked
        | inr l ↦ is_done (no_action w.plan checked t (places_of w t).done l)
      ]

  pub same_state : state_after reach.steps ≡ state_of w
  unfolding state_of
  same_state = (reachable_is_fixed w.plan (places_of w) checked reach).0

  -- so the run that leads there is maximal
  pub maximal_there : IsMaximal w.plan reach.steps
  maximal_there t forked =
      subst (λ s. HasEnded w.plan s (places reach.steps t) t) (sym same_state)
      (subst (λ p. HasEnded w.plan (state_of w) p t) (sym (reach.there t)) (ended t (ap (λ s. s.forked t) (sym same_state) ∙ forked)))

  -- and plain
  pub plain_there : IsPlainRun w.plan reach.steps
  plain_there = (reach.run, unrefused_plain w.plan reach.steps reach.run (λ t. ap (λ p. p.dropped) (reach.there t) ∙ undropped_all w plain t))

  pub is_final : IsFinal w.plan (state_of w)
  is_final =
      record {
        steps = reach.steps;
        run = plain_there;
        maximal = maximal_there;
        there = same_state;
      }

  pub plain_end : IsPlainEnd w.plan (final_of w.plan (state_of w))
  plain_end =
      record {
        state = state_of w;
        final = is_final;
        every = λ h run maximal. (one_end w.plan h is_final.steps checked run is_final.run maximal is_final.maximal).1 ∙ is_final.there;
        is_it = refl;
      }
