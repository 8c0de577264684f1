-- Each event and each refusal leaves less.
use Rattle.std.proofs.Common.{◌≡◌, ℕ, zero, suc, ◌<◌, ◌≤◌, ◌+◌, ◌-◌, Bool, true, false, List, [], ◌∷◌, Some, None, length, set, arith, sym, ◌∙◌, ap, subst, refl, inl, inr}
use Rattle.std.specs.Prelude.{if◌then◌else◌, slice_get}
use Rattle.std.proofs.lemmas.Option.{slice_get_within}
use Rattle.armus_base.specs.CheckedPlans.{IsCheckedPlan}
use Rattle.armus_base.specs.Plans.{Action, Plan, action_at, actions}
use Rattle.armus_base.specs.Runs.{IsReachable}
use Rattle.armus_base.proofs.NextIsLegal.{unrefused_undropped}
use Rattle.armus_base.proofs.Reachable.{reachable_is_fixed}
use Rattle.pl_core.specs.declared.place.Place.{Place}
use Rattle.pl_core.specs.calls.Moves.{IsWorldStep, further, refused_there}
use Rattle.pl_core.specs.calls.Worlds.{WorldValue, dropped_at, place_from, places_of, state_of}
use Rattle.pl_core.proofs.Standing.{place_is}
use Rattle.avoider.specs.declared.decision.Decision.{Decision}
use Rattle.avoider.specs.declared.decision.Decision.TheVariants.{Published, Refused}
use Rattle.avoider.specs.calls.Decisions.{HasGoneOn, IsDecision}
use Rattle.world_runs.specs.inside.Turns.{left_at, left_from, left_in}

-- a task that has a next action has made fewer than it has
has_left : (plan : Plan) (t k : ℕ) (x : Action) → action_at plan t k ≡ Some x → k < length (actions plan t)
unfolding action_at
has_left plan t k x e = slice_get_within (actions plan t) k x e

-- one task with less left
less_left :
    (plan : Plan) (t : ℕ) (places : List Place) (k : ℕ) (place next : Place) → slice_get places k ≡ Some place →
    left_at plan (t + k) next < left_at plan (t + k) place → left_from plan t (set places k next) < left_from plan t places
less_left plan t [] k place next e l = absurd (cc)
less_left plan t (p ∷ rest) zero place next e l =
    let is : place ≡ p = (cc) in
    let here : left_at plan t next < left_at plan t p =
    subst (λ q. left_at plan t next < left_at plan t q) is
    (subst (λ n. left_at plan n next < left_at plan n place) (let z : t + 0 ≡ t = omega arith in z) l) in
    add_less (left_at plan t next) (left_at plan t p) (left_from plan (suc t) rest) here
  where
    add_less : (a b c : ℕ) → a < b → a + c < b + c
    add_less a b c l = omega arith
less_left plan t (p ∷ rest) (suc k) place next e l =
    let there : left_at plan (suc t + k) next < left_at plan (suc t + k) place =
    subst (λ n. left_at plan n next < left_at plan n place) (let z : t + suc k ≡ suc t + k = omega arith in z) l in
    less_add (left_at plan t p) (left_from plan (suc t) (set rest k next)) (left_from plan (suc t) rest) (less_left plan (suc t) rest k place next e there)
  where
    less_add : (a b c : ℕ) → b < c → a + b < a + c
    less_add a b c l = omega arith

less_in_all :
    (old new : WorldValue) (t : ℕ) (place next : Place) → new.plan ≡ old.plan → slice_get old.places t ≡ Some place → new.places ≡ set old.places t next →
    left_at old.plan t next < left_at old.plan t place → left_in new < left_in old
less_in_all old new t place next plan there places l =
    subst (λ q. left_from q 0 new.places < left_from old.plan 0 old.places) (sym plan)
    (subst (λ ps. left_from old.plan 0 ps < left_from old.plan 0 old.places) (sym places)
    (less_left old.plan 0 old.places t place next there
    (subst (λ n. left_at old.plan n next < left_at old.plan n place) (let z : t ≡ 0 + t = omega arith in z) l)))

-- an event more
pub step_leaves_less_left : (old new : WorldValue) (t : ℕ) → IsWorldStep old new t → left_in new < left_in old
step_leaves_less_left old new t step =
    let at : places_of old t ≡ place_from old.plan t (Some step.places.place) = place_is old.plan old.places t step.places.place step.places.there in
    let left = has_left old.plan t (places_of old t).done step.action step.next in
    let done = ap (λ p. p.done) at in
    less_in_all old new t step.places.place (further step.places.place) step.plan step.places.there step.places.changed
    (let l : step.places.place.events < length (actions old.plan t) = omega arith in fewer (length (actions old.plan t)) step.places.place.events step.places.place.refused l)
  where
    fewer : (n k : ℕ) (b : Bool) → k < n → (n - (k + 1)) + (if b then 0 else 1) < (n - k) + (if b then 0 else 1)
    fewer n k true l = omega arith
    fewer n k false l = omega arith

-- who has dropped nothing is not refused
pub undropped_flag : (w : WorldValue) (t : ℕ) (place : Place) → slice_get w.places t ≡ Some place → (places_of w t).dropped ≡ None → place.refused ≡ false
undropped_flag w t place there undropped =
    let at : places_of w t ≡ place_from w.plan t (Some place) = place_is w.plan w.places t place there in
    by_flag place.refused (sym (ap (λ p. p.dropped) at) ∙ undropped)
  where
    by_flag : (b : Bool) → dropped_at w.plan t place.events b ≡ None → b ≡ false
    by_flag false e = refl
    by_flag true e = absurd (cc)

pub unrefused_is_undropped : (w : WorldValue) → IsCheckedPlan w.plan → IsReachable w.plan (places_of w) → (t : ℕ) → (state_of w).refused t ≡ None → (places_of w t).dropped ≡ None
unfolding state_of
unrefused_is_undropped w checked reach t none = unrefused_undropped w.plan checked (places_of w) (reachable_is_fixed w.plan (places_of w) checked reach).1 t none

-- a refusal
pub refused_leaves_less :
    (old new : WorldValue) (t : ℕ) (place : Place) → new.plan ≡ old.plan → slice_get old.places t ≡ Some place → new.places ≡ set old.places t (refused_there place) →
    place.refused ≡ false → left_in new < left_in old
refused_leaves_less old new t place plan there places flag =
    less_in_all old new t place (refused_there place) plan there places (fewer (length (actions old.plan t)) place.events place.refused flag)
  where
    fewer : (n k : ℕ) (b : Bool) → b ≡ false → (n - k) + 0 < (n - k) + (if b then 0 else 1)
    fewer n k false e = omega arith
    fewer n k true e = absurd (cc)

module _ (old new : WorldValue) (checked : IsCheckedPlan old.plan) (reach : IsReachable old.plan (places_of old)) (t : ℕ) where
  decision_leaves_less : (d : Decision) → IsDecision old new t d → left_in new < left_in old
  decision_leaves_less (Published e) is = step_leaves_less_left old new t is.step
  decision_leaves_less (Refused c) is =
      let kept = is.refusal.places in
      refused_leaves_less old new t kept.place is.refusal.plan kept.there kept.changed
      (undropped_flag old t kept.place kept.there (unrefused_is_undropped old checked reach t is.before.0.unrefused))

  pub gone_on_leaves_less : HasGoneOn old new t → left_in new < left_in old
  gone_on_leaves_less gone = elim gone [ inl d ↦ decision_leaves_less d.0 d.1 | inr e ↦ step_leaves_less_left old new t e.step ]

-- a world that is the same or has less left has at most as much
pub left_at_most : (old now : WorldValue) (moved : Bool) → (moved ≡ true → left_in now < left_in old) → (moved ≡ false → now ≡ old) → left_in now ≤ left_in old
left_at_most old now true less same = (let l = less refl in omega arith)
left_at_most old now false less same = (let e = ap left_in (same refl) in omega arith)
