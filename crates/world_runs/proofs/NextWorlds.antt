-- A task either may not go on, or there is a world to which it leads.
use mathlib.Core.Path.{fun_ext}
use Rattle.std.proofs.Common.{◌≡◌, ◌≢◌, ℕ, suc, ◌<◌, ◌+◌, false, List, [], ◌∷◌, ◌++◌, Option, Some, None, length, set, get_or, add-one, arith, sym, ◌∙◌, ap, subst, refl, ◌⊎◌, inl, inr}
use Rattle.std.specs.Prelude.{slice_get}
use Rattle.std.proofs.Math.ListN.{length-set}
use Rattle.std.proofs.lemmas.Bool.{cases_Bool, cases_eq}
use Rattle.std.proofs.lemmas.Option.{slice_get-get_or}
use Rattle.armus_base.specs.declared.event.Event.{Event}
use Rattle.armus_base.specs.CheckedPlans.{IsCheckedPlan}
use Rattle.armus_base.specs.Deadlocks.{WouldBeDead}
use Rattle.armus_base.specs.Places.{members_below, phases_after, state_at}
use Rattle.armus_base.specs.Plans.{Aim, Action, Blocks, Passes, Refuses}
use Rattle.armus_base.specs.Runs.{IsByCode, IsReachable, Place, moved, next_place}
use Rattle.armus_base.specs.Serial.{GoesOn, IsDecided}
use Rattle.armus_base.specs.States.{IsActive, IsLegal, IsReached, Step, after, awaited, if_published}
use Rattle.armus_base.proofs.Again.{in_code_plain}
use Rattle.armus_base.proofs.Codes.{awaited_some, no_refusal}
use Rattle.armus_base.proofs.Reachable.{reachable_is_fixed, reachable_steps}
use Rattle.armus_base.proofs.Steps.{updated_same, updated_other}
use Rattle.armus_base.proofs.Tasks.{action_of_task, reached_or_not}
use Rattle.pl_core.specs.declared.place.Place.{Place as KeptPlace}
use Rattle.pl_core.specs.declared.stand.Stand.TheVariants.{Unforked, Refused, Waits}
use Rattle.pl_core.specs.calls.Moves.{LeadsOn, IsWorldStep, drops_from, further, refused_there}
use Rattle.pl_core.specs.calls.Stands.{IsAtAwaitOf, IsEnabled}
use Rattle.pl_core.specs.calls.Worlds.{WorldValue, dropped_at, memberships, action_by_code, places_of, state_of}
use Rattle.pl_core.proofs.GoingOn.{goes_on, legal_when_active, legal_when_reached, passes_when_waiting}
use Rattle.pl_core.proofs.OneStep.{places_set_other, places_set_same, regular}
use Rattle.pl_core.proofs.Refusing.{dropping, drops_lead}
use Rattle.pl_core.proofs.Standing.{place_is}
use Rattle.avoider.proofs.Supposing.{blocks_next, supposed_of_plan}
use Rattle.world_runs.specs.inside.AvoidedRounds.{LeadsTo}
use Rattle.world_runs.specs.inside.Turns.{left_in}
use Rattle.world_runs.proofs.AvoidedSteps.{leads_run, leads_state, refusal_goes_on, step_adds}
use Rattle.world_runs.proofs.DeadOrNot.{dead_or_not}
use Rattle.world_runs.proofs.Left.{refused_leaves_less, step_leaves_less_left, undropped_flag, unrefused_is_undropped}

-- task t goes on from the world to the new one, in which less is left
pub record GoesOnInto (w new : WorldValue) (t : ℕ) : Type 0 where
  pub plan : new.plan ≡ w.plan
  pub sized : length new.places ≡ length w.places
  pub less : left_in new < left_in w
  pub adds : (h : List Step) → LeadsTo w.plan h w → (own : List Step) × LeadsTo w.plan (own ++ h) new × GoesOn w.plan t h own

module _ (w : WorldValue) (checked : IsCheckedPlan w.plan) (reach : IsReachable w.plan (places_of w)) (sized : length w.places ≡ length w.plan.parents) (t : ℕ) where
  abbrev Goes : Type 0
  Goes = (new : WorldValue) × GoesOnInto w new t

  -- a step of the code
  module _ (x : Action) (next : action_by_code w t ≡ Some x) (legal : IsLegal w.plan (state_of w) t x) (undropped : (places_of w t).dropped ≡ None) where
    inside : t < length w.places
    inside = (let l = action_of_task w.plan checked t (places_of w t).done x next in omega arith)

    abbrev place : KeptPlace
    place = get_or w.places t (record { events = 0; refused = false })

    there : slice_get w.places t ≡ Some place
    there = slice_get-get_or w.places t (record { events = 0; refused = false }) inside

    flag : place.refused ≡ false
    flag = undropped_flag w t place there undropped

    done : (places_of w t).done ≡ place.events
    done = ap (λ p. p.done) (place_is w.plan w.places t place there)

    no_refusing : (aim : Aim) → x ≢ Refuses aim
    no_refusing p e = no_refusal w.plan t (places_of w t).done p (next ∙ ap Some e)

    abbrev stepped : WorldValue
    stepped = record { plan = w.plan; places = set w.places t (further place) }

    moved_is : places_of stepped ≡ moved (places_of w) t x
    moved_is =
        fun_ext (λ u. elim (cases_eq u t) [
          | inl e ↦ subst (λ v. places_of stepped v ≡ moved (places_of w) t x v) (sym e) own
          | inr n ↦
              places_set_other w.plan w.places t u (further place) n
              ∙ sym (updated_other (places_of w) t u (next_place (places_of w t).done (places_of w t).dropped x) n)
        ])
      where
        own : places_of stepped t ≡ moved (places_of w) t x t
        own =
            places_set_same w.plan w.places t (further place) inside
            ∙ ap (λ b. record { done = place.events + 1; dropped = dropped_at w.plan t (place.events + 1) b }) flag
            ∙ ap (λ k. record { done = k; dropped = None }) (add-one place.events ∙ ap suc (sym done))
            ∙ sym (regular (places_of w t).done x no_refusing)
            ∙ ap (λ o. next_place (places_of w t).done o x) (sym undropped)
            ∙ sym (updated_same (places_of w) t t (next_place (places_of w t).done (places_of w t).dropped x) refl)

    by_code : IsByCode w.plan t (places_of w t).done (places_of w t).dropped x
    by_code = subst (λ o. IsByCode w.plan t (places_of w t).done o x) (sym undropped) (next ∙ ap Some (sym (in_code_plain x no_refusing)))

    legal_there : IsLegal w.plan (state_at w.plan (places_of w)) t x
    unfolding state_of
    legal_there = legal

    state_is : state_of stepped ≡ after (state_of w) t x
    unfolding state_of
    state_is = ap (state_at w.plan) moved_is ∙ sym (reachable_steps w.plan (places_of w) t x checked reach by_code legal_there).1

    makes_step : IsWorldStep w stepped t
    makes_step =
        record {
          action = x;
          next = next;
          legal = legal;
          plan = refl;
          places = record { place = place; there = there; changed = refl };
          run = (places_of w, refl, by_code, legal_there, sym moved_is);
          state = state_is;
        }

    by_step : IsDecided (state_of w) t x → Goes
    unfolding makes_step
    by_step decided = (
      stepped,
      record {
        plan = refl;
        sized = length-set w.places t (further place);
        less = step_leaves_less_left w stepped t makes_step;
        adds = λ h leads. step_adds w stepped checked t makes_step h leads decided;
      },
    )

  -- a refusal and its drops
  module _ (e : Event) (before : IsAtAwaitOf w t e) (dead : WouldBeDead (state_of w) t e) where
    aim : Aim
    aim = (blocks_next w t e before).0

    blocks : action_by_code w t ≡ Some (Blocks aim)
    unfolding aim
    blocks = (blocks_next w t e before).1

    awaits : awaited (Some (Blocks aim)) ((state_of w).phases t) ≡ Some e
    unfolding aim
    awaits = (blocks_next w t e before).2

    undropped_there : (places_of w t).dropped ≡ None
    undropped_there = unrefused_is_undropped w checked reach t before.0.unrefused

    active_there : IsActive (state_at w.plan (places_of w)) t
    unfolding state_of
    active_there = before.0

    may_block : IsLegal w.plan (state_at w.plan (places_of w)) t (Blocks aim)
    unfolding state_of
    may_block = legal_when_active w checked reach t (Blocks aim) before.0 blocks

    standing : KeptPlace
    standing = get_or w.places t (record { events = 0; refused = false })

    within : t < length w.places
    within = (let l = action_of_task w.plan checked t (places_of w t).done (Blocks aim) blocks in omega arith)

    stands : slice_get w.places t ≡ Some standing
    unfolding standing
    stands = slice_get-get_or w.places t (record { events = 0; refused = false }) within

    abbrev refused : WorldValue
    refused = record { plan = w.plan; places = set w.places t (refused_there standing) }

    abbrev own : ℕ → Option ℕ
    own = phases_after w.plan t (places_of w t).done

    abbrev last : ℕ → Place
    last = dropping w.plan checked (places_of w) t aim active_there undropped_there blocks may_block (length w.plan.makers)

    seen : places_of refused ≡ last
    seen =
        fun_ext (λ u. elim (cases_eq u t) [
          | inl same ↦
              subst (λ v. places_of refused v ≡ last v) (sym same)
              (places_set_same w.plan w.places t (refused_there standing) within
              ∙ ap (λ k. record { done = k; dropped = Some (memberships w.plan t k) }) (sym (ap (λ p. p.done) (place_is w.plan w.places t standing stands)))
              ∙ sym (updated_same (places_of w) t t (record { done = (places_of w t).done; dropped = Some (members_below own (length w.plan.makers)) }) refl))
          | inr other ↦
              places_set_other w.plan w.places t u (refused_there standing) other
              ∙ sym (updated_other (places_of w) t u (record { done = (places_of w t).done; dropped = Some (members_below own (length w.plan.makers)) }) other)
        ])

    lead : (drops : List ℕ) × LeadsOn w.plan (places_of w) (drops_from t drops ++ record { task = t; action = Refuses aim } ∷ []) last
    lead = drops_lead w.plan checked (places_of w) t aim active_there undropped_there blocks may_block (length w.plan.makers)

    decided : IsDecided (state_of w) t (Refuses aim)
    decided = (e, awaits, dead)

    by_refusal : Goes
    by_refusal = (
      refused,
      record {
        plan = refl;
        sized = length-set w.places t (refused_there standing);
        less = refused_leaves_less w refused t standing refl stands refl (undropped_flag w t standing stands undropped_there);
        adds = λ h leads.
            let steps = drops_from t lead.0 ++ record { task = t; action = Refuses aim } ∷ [] in
            let run = leads_run w.plan checked (places_of w) steps last h leads.run leads.there lead.1 in (
              steps,
              record { plan_is = refl; run = run.0; there = run.1 ∙ sym seen },
              refusal_goes_on w.plan t aim lead.0 h (subst (λ s. IsDecided s t (Refuses aim)) (sym (leads_state w.plan checked h w leads)) decided),
            );
      },
    )

  reached_in : (e : Event) → IsReached (state_of w) e ⊎ (IsReached (state_of w) e → ⊥)
  unfolding state_of
  reached_in e =
      subst (λ s. IsReached s e ⊎ (IsReached s e → ⊥)) (reachable_is_fixed w.plan (places_of w) checked reach).0
      (reached_or_not w.plan checked reach.steps reach.run e.p.0 e.n)

  by_await : (aim : Aim) → action_by_code w t ≡ Some (Blocks aim) → IsLegal w.plan (state_of w) t (Blocks aim) → Goes
  by_await aim next legal =
      let awaits = awaited_some aim ((state_of w).phases t) legal.1 in
      let before : IsAtAwaitOf w t awaits.0 = (legal.0, ap (λ o. awaited o ((state_of w).phases t)) next ∙ awaits.1) in
      let task = action_of_task w.plan checked t (places_of w t).done (Blocks aim) next in
      let supposed = supposed_of_plan w checked reach t task awaits.0 in
      elim (dead_or_not (if_published (state_of w) t awaits.0) (length w.plan.parents) supposed.published supposed.member t) [
        | inl dead ↦ by_refusal awaits.0 before dead
        | inr alive ↦ by_step (Blocks aim) next legal (unrefused_is_undropped w checked reach t legal.0.unrefused) (awaits.0, awaits.1, alive)
      ]

  by_action : (x : Action) → IsActive (state_of w) t → action_by_code w t ≡ Some x → IsLegal w.plan (state_of w) t x → Goes
  by_action (Blocks p) active next legal = by_await p next legal
  by_action (Refuses p) active next legal = absurd (no_refusal w.plan t (places_of w t).done p next)
  by_action x active next legal = by_step x next legal (unrefused_is_undropped w checked reach t active.unrefused) tt

  -- a task goes on, or it may not
  pub next_or_not : Goes ⊎ (IsEnabled w t → ⊥)
  next_or_not = by_published ((state_of w).published t) refl
    where
      by_next : IsActive (state_of w) t → (o : Option Action) → action_by_code w t ≡ o → Goes ⊎ (IsEnabled w t → ⊥)
      by_next active None none = inr (λ enabled. absurd (let next = enabled.1 in cc))
      by_next active (Some x) next = inl (by_action x active next (legal_when_active w checked reach t x active next))

      by_refused : (state_of w).published t ≡ None → (o : Option Event) → (state_of w).refused t ≡ o → Goes ⊎ (IsEnabled w t → ⊥)
      by_refused unpublished (Some e) is = inr (λ enabled. (goes_on w checked reach t (Refused e) is).0 enabled)
      by_refused unpublished None is =
          elim (cases_Bool ((state_of w).forked t)) [
            | inl forked ↦ by_next (record { forked = forked; unpublished = unpublished; unrefused = is }) (action_by_code w t) refl
            | inr unforked ↦ inr (λ enabled. (goes_on w checked reach t Unforked unforked).0 enabled)
          ]

      by_published : (o : Option Event) → (state_of w).published t ≡ o → Goes ⊎ (IsEnabled w t → ⊥)
      by_published None is = by_refused is ((state_of w).refused t) refl
      by_published (Some e) is =
          elim (reached_in e) [
            | inl reached ↦
                let legal = legal_when_reached w checked reach t e is reached in
                inl (by_step (Passes e.p.0) (passes_when_waiting w checked reach t e is) legal (unrefused_is_undropped w checked reach t legal.4) tt)
            | inr unreached ↦ inr (λ enabled. unreached ((goes_on w checked reach t (Waits e) is).0 enabled))
          ]
