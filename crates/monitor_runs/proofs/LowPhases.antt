-- No phase of a run is greater than the plan has ops.
use Rattle.std.proofs.Common.{◌≡◌, ℕ, zero, suc, ◌≤◌, ◌==◌, Option, Some, None, List, sym, ◌∙◌, ap, ◌⊎◌, inl, inr, length}
use Rattle.std.specs.Prelude.{sum_by}
use Rattle.std.proofs.lemmas.Bool.{cases_Bool, cond-true, cond-false}
use Rattle.armus_base.specs.Plans.{Plan, Action, Makes, Registers, Forks, Advances, Drops, Blocks, Passes, Refuses, action_at, parent_of}
use Rattle.armus_base.specs.States.{Phases, State, Step, updated}
use Rattle.armus_base.specs.Places.{phases_after, phases_at, register_step, registered_by, done_by}
use Rattle.armus_base.specs.Runs.{IsLegalRun, places, state_after}
use Rattle.armus_base.specs.CheckedPlans.{IsCheckedPlan}
use Rattle.armus_base.proofs.Steps.{updated_is}
use Rattle.armus_base.proofs.Published.{kept_is}
use Rattle.armus_base.proofs.PhasesFit.{phases_fit}
use Rattle.armus_base.proofs.PlacesFixState.{places_fix_state}

-- what a child has, it was registered with, or has so far
step_is : (o : Option Action) (c : ℕ) (m r : Phases) (p n : ℕ) → register_step o c m r p ≡ Some n → (m p ≡ Some n) ⊎ (r p ≡ Some n)
step_is None c m r p n e = inr e
step_is (Some (Makes q)) c m r p n e = inr e
step_is (Some (Forks d)) c m r p n e = inr e
step_is (Some (Advances q)) c m r p n e = inr e
step_is (Some (Drops q)) c m r p n e = inr e
step_is (Some (Blocks a)) c m r p n e = inr e
step_is (Some (Passes q)) c m r p n e = inr e
step_is (Some (Refuses a)) c m r p n e = inr e
step_is (Some (Registers d q)) c m r p n e = elim (cases_Bool (d == c)) [
  | inl its ↦ elim (updated_is r q p (m q) (Some n) (sym (ap (λ (f : Phases). f p) (cond-true (d == c) (updated r q (m q)) r its)) ∙ e)) [
    | inl here ↦ inl (ap m here.0 ∙ here.1)
    | inr other ↦ inr other.1
  ]
  | inr not_its ↦ inr (sym (ap (λ (f : Phases). f p) (cond-false (d == c) (updated r q (m q)) r not_its)) ∙ e)
]

registered_is : (plan : Plan) (u c k p n : ℕ) → registered_by plan u c k p ≡ Some n → (j : ℕ) × (phases_after plan u j p ≡ Some n)
unfolding registered_by phases_after
registered_is plan u c zero p n e = absurd (cc)
registered_is plan u c (suc k) p n e =
    elim (step_is (action_at plan u k) c (phases_after plan u k) (registered_by plan u c k) p n e) [
      | inl parent ↦ (k, parent)
      | inr before ↦ registered_is plan u c k p n before
    ]

at_most : (plan : Plan) → IsCheckedPlan plan → (a : ℕ → ℕ) (t p n : ℕ) → phases_at plan a t p ≡ Some n → n ≤ sum_by length plan.codes
unfolding phases_at
at_most plan checked a t p n e = elim (cases_Bool (a t == 0)) [
  | inl unbegun ↦
      (let r = registered_is plan (parent_of plan t) t (a (parent_of plan t)) p n
      (sym (ap (λ (f : Phases). f p) (cond-true (a t == 0) (registered_by plan (parent_of plan t) t (a (parent_of plan t))) (phases_after plan t (a t)) unbegun)) ∙ e) in
      phases_fit plan (parent_of plan t) r.0 p n checked r.1)
  | inr begun ↦
      phases_fit plan t (a t) p n checked
      (sym (ap (λ (f : Phases). f p) (cond-false (a t == 0) (registered_by plan (parent_of plan t) t (a (parent_of plan t))) (phases_after plan t (a t)) begun)) ∙ e)
]

pub phases_low : (plan : Plan) (h : List Step) → IsCheckedPlan plan → IsLegalRun plan h → (t p n : ℕ) → (state_after h).phases t p ≡ Some n → n ≤ sum_by length plan.codes
phases_low plan h checked run t p n e =
    at_most plan checked (done_by (places h)) t p n
    (kept_is (places h t).dropped (phases_at plan (done_by (places h)) t) p n (ap (λ (s : State). s.phases t p) (sym (places_fix_state plan h checked run)) ∙ e))
