-- The state to which a run leads is the one that its places fix.
use Rattle.std.proofs.Common.{◌≡◌, ℕ, ◌∙◌, ap, refl, subst, sym}
use mathlib.Core.Path.{fun_ext}
use Rattle.armus_base.specs.CheckedPlans.{IsCheckedPlan}
use Rattle.armus_base.specs.Places.{done_by, state_at}
use Rattle.armus_base.specs.Plans.{Plan}
use Rattle.armus_base.specs.Runs.{IsReachable, Place, places}
use Rattle.armus_base.specs.States.{State}
use Rattle.armus_base.proofs.PlacesFixState.{places_fix_state}
use Rattle.armus_base.proofs.Reachable.{reachable_is_fixed}
use Rattle.explain_facts.specs.RunStates.{IsReachedState}

module _ (plan : Plan) (s : State) (done : ℕ → ℕ) (checked : IsCheckedPlan plan) (there : IsReachedState plan s done) where
  abbrev a : ℕ → Place
  a = places there.steps

  -- a run leads to these places
  pub places_reached : IsReachable plan a
  places_reached = record { steps = there.steps; run = there.run; there = λ t. refl }

  same_state : state_at plan a ≡ s
  same_state = sym (places_fix_state plan there.steps checked there.run) ∙ there.there

  same_counts : done_by a ≡ done
  same_counts = fun_ext there.counts

  -- what is so of the state that they fix is so of the state
  pub from_places : (C : State → (ℕ → ℕ) → Type 0) → C (state_at plan a) (done_by a) → C s done
  from_places C is = subst (λ (x : State). C x done) same_state (subst (λ (d : ℕ → ℕ). C (state_at plan a) d) same_counts is)

  -- and what is so of the state is so of the state that they fix
  pub to_places : (C : State → (ℕ → ℕ) → Type 0) → C s done → C (state_at plan a) (done_by a)
  to_places C is = subst (λ (d : ℕ → ℕ). C (state_at plan a) d) (sym same_counts) (subst (λ (x : State). C x done) (sym same_state) is)

-- places to which a run leads have such a state
pub reached_there : (plan : Plan) (a : ℕ → Place) → IsCheckedPlan plan → IsReachable plan a → IsReachedState plan (state_at plan a) (done_by a)
reached_there plan a checked reach = record {
  steps = reach.steps;
  run = reach.run;
  there = (reachable_is_fixed plan a checked reach).0;
  counts = λ t. ap (λ (place : Place). place.done) (reach.there t);
}
