-- Who may not go on has come to an end, and what a round adds to a run.
use mathlib.Core.Path.{fun_ext}
use Rattle.std.proofs.Common.{◌≡◌, ℕ, suc, ◌+◌, Bool, true, false, List, ◌++◌, Option, Some, None, length, add-one, sym, ◌∙◌, ap, subst, refl}
use Rattle.std.specs.Prelude.{IsSome, MatchBool, slice_get}
use Rattle.armus_base.specs.declared.event.Event.{Event}
use Rattle.armus_base.specs.CheckedPlans.{IsCheckedPlan}
use Rattle.armus_base.specs.Places.{done_by, kept, phases_after, phases_at, refused_at}
use Rattle.armus_base.specs.Plans.{Action, Passes, Plan}
use Rattle.armus_base.specs.Runs.{HasEnded, IsReachable, Place, is_done, is_refused, is_waiting, places, state_after}
use Rattle.armus_base.specs.Serial.{IsTurn, RoundBelow}
use Rattle.armus_base.specs.States.{IsActive, Step}
use Rattle.armus_base.proofs.Fixed.{phases_forked}
use Rattle.pl_core.specs.declared.place.Place.{Place as KeptPlace}
use Rattle.pl_core.specs.calls.Stands.{IsEnabled}
use Rattle.pl_core.specs.calls.Worlds.{WorldValue, dropped_at, memberships, action_by_code, place_from, places_at, places_of, state_of}
use Rattle.pl_core.proofs.Bounds.{phaser_of_member}
use Rattle.pl_core.proofs.GoingOn.{legal_when_active, legal_when_reached, passes_when_waiting}
use Rattle.pl_core.proofs.Refusing.{dropped_below}
use Rattle.pl_core.proofs.Standing.{place_is}
use Rattle.world_runs.specs.inside.AvoidedRounds.{GoesOnTo, HasPart, HasRoundBelow, LeadsTo}
use Rattle.world_runs.proofs.AvoidedSteps.{leads_state}
use Rattle.world_runs.proofs.ForkedTasks.{forked_in_round, forked_later}

-- who has no place has dropped nothing
nowhere : (w : WorldValue) (t : ℕ) → slice_get w.places t ≡ None → (places_of w t).dropped ≡ None
unfolding places_at
nowhere w t there = ap (λ o. (place_from w.plan t o).dropped) there

module _ (w : WorldValue) (checked : IsCheckedPlan w.plan) (reach : IsReachable w.plan (places_of w)) (t : ℕ) where
  -- a refused task is a member of nothing
  left_all : (state_of w).forked t ≡ true → (e : Event) → (state_of w).refused t ≡ Some e → (p : ℕ) → (state_of w).phases t p ≡ None
  unfolding state_of
  left_all forked e is p = by_place (slice_get w.places t) refl
    where
      by_phase :
          (a : KeptPlace) → slice_get w.places t ≡ Some a → (places_of w t).dropped ≡ Some (memberships w.plan t a.events) →
          (o : Option ℕ) → (state_of w).phases t p ≡ o → (state_of w).phases t p ≡ None
      by_phase a there dropped None none = none
      by_phase a there dropped (Some n) member =
          let done : (places_of w t).done ≡ a.events = ap (λ v. v.done) (place_is w.plan w.places t a there) in
          let own : phases_at w.plan (done_by (places_of w)) t ≡ phases_after w.plan t a.events =
          phases_forked w.plan checked (done_by (places_of w)) t forked ∙ ap (phases_after w.plan t) done in
          ap (λ d. kept d (phases_at w.plan (done_by (places_of w)) t) p) dropped
          ∙ ap (λ m. kept (Some (memberships w.plan t a.events)) m p) own
          ∙ dropped_below (phases_after w.plan t a.events) (length w.plan.makers) p (phaser_of_member w checked reach t p n member)

      by_flag : (a : KeptPlace) → slice_get w.places t ≡ Some a → (b : Bool) → a.refused ≡ b → (state_of w).phases t p ≡ None
      by_flag a there true flag =
          by_phase a there (ap (λ v. v.dropped) (place_is w.plan w.places t a there) ∙ ap (dropped_at w.plan t a.events) flag) ((state_of w).phases t p) refl
      by_flag a there false flag =
          let dropped : (places_of w t).dropped ≡ None = ap (λ v. v.dropped) (place_is w.plan w.places t a there) ∙ ap (dropped_at w.plan t a.events) flag in
          absurd (let none : refused_at w.plan t (places_of w t).done (places_of w t).dropped ≡ None = ap (refused_at w.plan t (places_of w t).done) dropped in cc)

      by_place : (o : Option KeptPlace) → slice_get w.places t ≡ o → (state_of w).phases t p ≡ None
      by_place (Some a) there = by_flag a there a.refused refl
      by_place None there =
          let dropped : (places_of w t).dropped ≡ None = nowhere w t there in
          absurd (let none : refused_at w.plan t (places_of w t).done (places_of w t).dropped ≡ None = ap (refused_at w.plan t (places_of w t).done) dropped in cc)

  -- a forked task that may not go on has come to an end
  pub ended_here : (state_of w).forked t ≡ true → (IsEnabled w t → ⊥) → HasEnded w.plan (state_of w) (places_of w t) t
  ended_here forked stuck = by_published ((state_of w).published t) refl
    where
      by_next : IsActive (state_of w) t → (o : Option Action) → action_by_code w t ≡ o → HasEnded w.plan (state_of w) (places_of w t) t
      by_next active None e = is_done e
      by_next active (Some x) e = absurd (stuck (x, e, legal_when_active w checked reach t x active e))

      by_refused : (state_of w).published t ≡ None → (o : Option Event) → (state_of w).refused t ≡ o → HasEnded w.plan (state_of w) (places_of w t) t
      by_refused none None e = by_next (record { forked = forked; unpublished = none; unrefused = e }) (action_by_code w t) refl
      by_refused none (Some event) e = is_refused (let some : IsSome (Some event) = refl in subst (λ (o : Option Event). IsSome o) (sym e) some) (left_all forked event e)

      by_published : (o : Option Event) → (state_of w).published t ≡ o → HasEnded w.plan (state_of w) (places_of w t) t
      by_published None e = by_refused e ((state_of w).refused t) refl
      by_published (Some event) e =
          is_waiting event e (λ reached. stuck (Passes event.p.0, passes_when_waiting w checked reach t event e, legal_when_reached w checked reach t event e reached))

-- a run that leads to the world tells that its places are reachable
pub reached_by : (plan : Plan) (h : List Step) (w : WorldValue) → LeadsTo plan h w → IsReachable w.plan (places_of w)
reached_by plan h w leads =
    subst (λ q. IsReachable q (places_of w)) (sym leads.plan_is) (record { steps = h; run = leads.run; there = λ t. ap (λ a. a t) leads.there })

-- the turn of a task that may not go on any more
pub turn_taken :
    (old new : WorldValue) (t : ℕ) (moved : Bool) → IsCheckedPlan old.plan → new.plan ≡ old.plan → (state_of old).forked t ≡ true →
    GoesOnTo old new t moved → (IsEnabled new t → ⊥) → HasPart old new t true moved
turn_taken old new t moved checked_old plan forked goes stuck h leads =
    let run = goes h leads in
    let checked = subst IsCheckedPlan (sym plan) checked_old in
    let reach = reached_by old.plan (run.0 ++ h) new run.1 in
    let there : LeadsTo new.plan (run.0 ++ h) new = subst (λ q. LeadsTo q (run.0 ++ h) new) (sym plan) run.1 in
    let state = leads_state new.plan checked (run.0 ++ h) new there in
    let before = leads_state old.plan checked_old h old leads in
    let still = forked_later run.0 h t (ap (λ s. s.forked t) before ∙ forked) in
    let ended = ended_here new checked reach t (ap (λ s. s.forked t) (sym state) ∙ still) stuck in
    let at_run : HasEnded new.plan (state_after (run.0 ++ h)) (places (run.0 ++ h) t) t =
    subst (λ s. HasEnded new.plan s (places (run.0 ++ h) t) t) (sym state)
    (subst (λ (a : ℕ → Place). HasEnded new.plan (state_of new) (a t) t) (sym there.there) ended) in (
      run.0 ++ h,
      run.1,
      record {
        own = run.0;
        there = refl;
        run = run.1.run;
        goes_on = run.2;
        ended = subst (λ q. HasEnded q (state_after (run.0 ++ h)) (places (run.0 ++ h) t) t) plan at_run;
      },
      λ e. ap (λ v. v ++ h) (run.3 e),
    )

-- a task that has no turn in the round
pub turn_left_out : (w : WorldValue) (t : ℕ) → HasPart w w t false false
turn_left_out w t h leads = (h, leads, refl, λ e. refl)

-- no task has had its turn yet
pub round_begun : (w : WorldValue) → HasRoundBelow w w 0 false
round_begun w h leads = (h, leads, refl, λ e. refl)

-- the part of one task more
pub round_more :
    (first old new : WorldValue) (k : ℕ) (has before moved both : Bool) → IsCheckedPlan first.plan → old.plan ≡ first.plan → (state_of first).forked k ≡ has →
    HasRoundBelow first old k before → HasPart old new k has moved → (both ≡ false → (before ≡ false) × (moved ≡ false)) →
    HasRoundBelow first new (k + 1) both
round_more first old new k has before moved both checked plan forked round part unmoved h leads =
    let early = round h leads in
    let there : LeadsTo old.plan early.0 old = subst (λ q. LeadsTo q early.0 old) (sym plan) early.1 in
    let late = part early.0 there in
    let own : MatchBool has (IsTurn first.plan k early.0 late.0) (late.0 ≡ early.0) = subst (λ q. MatchBool has (IsTurn q k early.0 late.0) (late.0 ≡ early.0)) plan late.2 in
    let flag : (state_after h).forked k ≡ has = ap (λ s. s.forked k) (leads_state first.plan checked h first leads) ∙ forked in
    let whole : RoundBelow first.plan (suc k) h late.0 = (early.0, early.2, subst (λ b. MatchBool b (IsTurn first.plan k early.0 late.0) (late.0 ≡ early.0)) (sym flag) own) in (
      late.0,
      subst (λ q. LeadsTo q late.0 new) plan late.1,
      subst (λ n. RoundBelow first.plan n h late.0) (sym (add-one k)) whole,
      λ e. late.3 (unmoved e).1 ∙ early.3 (unmoved e).0,
    )

-- the run that leads to a world
pub leads_there : (w : WorldValue) → (r : IsReachable w.plan (places_of w)) → LeadsTo w.plan r.steps w
leads_there w r = record { plan_is = refl; run = r.run; there = fun_ext r.there }

-- who is forked before the round is forked in it
pub forked_still :
    (first old : WorldValue) (k t : ℕ) (moved : Bool) → IsCheckedPlan first.plan → IsReachable first.plan (places_of first) → HasRoundBelow first old k moved →
    (state_of first).forked t ≡ true → (state_of old).forked t ≡ true
forked_still first old k t moved checked reach round forked =
    let leads = leads_there first reach in
    let run = round reach.steps leads in
    let before = leads_state first.plan checked reach.steps first leads in
    let now = leads_state first.plan checked run.0 old run.1 in
    ap (λ s. s.forked t) (sym now) ∙ forked_in_round first.plan k reach.steps run.0 run.2 t (ap (λ s. s.forked t) before ∙ forked)
