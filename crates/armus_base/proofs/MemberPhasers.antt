-- The phasers of which a task is a member after some of its actions are phasers of the plan.
use Rattle.std.proofs.Common.{◌≡◌, ℕ, zero, suc, ◌<◌, ◌≤◌, Bool, true, false, Option, Some, None, length, sym, refl, ap, ◌∙◌, subst, arith, inl, inr}
use Rattle.std.specs.Prelude.{if◌then◌else◌, ◌==◌}
use Rattle.std.proofs.lemmas.Bool.{cases_eq}
use Rattle.armus_base.specs.Plans.{Action, Advances, Blocks, Drops, Forks, Makes, Passes, Plan, Refuses, Registers, action_at, actions, parent_of}
use Rattle.armus_base.specs.States.{Phases, next_phase, updated}
use Rattle.armus_base.specs.Places.{first_phases, own_phases, own_step, phases_after, register_step, registered, registered_by}
use Rattle.armus_base.specs.CheckedPlans.{IsCheckedPlan}
use Rattle.armus_base.proofs.Steps.{next_phase_is, updated_is}
use Rattle.armus_base.proofs.Codes.{phaser_within}
use Rattle.armus_base.proofs.Fixed.{first_phases_is}

-- what is said of each phase that a task has after its actions holds of those with which it registers a child
pub registered_keep :
    (P : ℕ → ℕ → Type 0) (act : ℕ → Option Action) (m : Phases) → ((k p n : ℕ) → own_phases act m k p ≡ Some n → P p n) →
    (c k p n : ℕ) → registered act m c k p ≡ Some n → P p n
registered_keep P act m own c zero p n e = absurd (cc)
registered_keep P act m own c (suc k) p n e = by_action (act k) (registered act m c k) (registered_keep P act m own c k) e
  where
    by_test : (r : Phases) → ((p n : ℕ) → r p ≡ Some n → P p n) → (q : ℕ) (b : Bool) → (if b then updated r q (own_phases act m k q) else r) p ≡ Some n → P p n
    by_test r before q false e = before p n e
    by_test r before q true e = elim (updated_is r q p (own_phases act m k q) (Some n) e) [
      | inl w ↦ own k p n (ap (own_phases act m k) w.0 ∙ w.1)
      | inr w ↦ before p n w.1
    ]

    by_action : (o : Option Action) (r : Phases) → ((p n : ℕ) → r p ≡ Some n → P p n) → register_step o c (own_phases act m k) r p ≡ Some n → P p n
    by_action (Some (Registers d q)) r before e = by_test r before q (d == c) e
    by_action None r before e = before p n e
    by_action (Some (Makes q)) r before e = before p n e
    by_action (Some (Forks d)) r before e = before p n e
    by_action (Some (Advances q)) r before e = before p n e
    by_action (Some (Drops q)) r before e = before p n e
    by_action (Some (Blocks q)) r before e = before p n e
    by_action (Some (Passes q)) r before e = before p n e
    by_action (Some (Refuses q)) r before e = before p n e

module _ (plan : Plan) (checked : IsCheckedPlan plan) where
  own_within :
      (t : ℕ) → ((p n : ℕ) → first_phases plan t p ≡ Some n → p < length plan.makers) → (k p n : ℕ) → phases_after plan t k p ≡ Some n → p < length plan.makers
  unfolding phases_after
  own_within t first zero p n e = first p n e
  own_within t first (suc k) p n e = by_action (action_at plan t k) refl (own_within t first k) e
    where
      by_action : (o : Option Action) → action_at plan t k ≡ o → ((p n : ℕ) → phases_after plan t k p ≡ Some n → p < length plan.makers) →
          own_step o (phases_after plan t k) p ≡ Some n → p < length plan.makers
      by_action None is before e = before p n e
      by_action (Some (Makes q)) is before e = elim (updated_is (phases_after plan t k) q p (Some 0) (Some n) e) [
        | inl w ↦ subst (λ v. v < length plan.makers) (sym w.0) (phaser_within plan t q (checked.codes.well_formed t k (Makes q) is).0)
        | inr w ↦ before p n w.1
      ]
      by_action (Some (Advances q)) is before e = elim (updated_is (phases_after plan t k) q p (next_phase (phases_after plan t k q)) (Some n) e) [
        | inl w ↦ (let j = next_phase_is (phases_after plan t k q) n w.1 in subst (λ v. v < length plan.makers) (sym w.0) (before q j.0 j.1))
        | inr w ↦ before p n w.1
      ]
      by_action (Some (Drops q)) is before e = elim (updated_is (phases_after plan t k) q p None (Some n) e) [
        | inl w ↦ absurd (let none = w.1 in cc)
        | inr w ↦ before p n w.1
      ]
      by_action (Some (Registers c q)) is before e = before p n e
      by_action (Some (Forks c)) is before e = before p n e
      by_action (Some (Blocks q)) is before e = before p n e
      by_action (Some (Passes q)) is before e = before p n e
      by_action (Some (Refuses q)) is before e = before p n e

  root_none : (t : ℕ) → t ≡ 0 → (q : ℕ) → first_phases plan t q ≡ None
  unfolding first_phases
  root_none t z q = ap (λ u. first_phases plan u q) z

  child_within_so :
      (u : ℕ) → ((k p n : ℕ) → phases_after plan u k p ≡ Some n → p < length plan.makers) → (t q m : ℕ) → registered_by plan u t (length (actions plan u)) q ≡ Some m →
      q < length plan.makers
  unfolding registered_by phases_after
  child_within_so u before t q m f =
      registered_keep (λ p n. p < length plan.makers) (action_at plan u) (first_phases plan u) before t (length (actions plan u)) q m f

  -- a phaser of which a task is a member is one of the plan
  within_by : (d t k p n : ℕ) → t ≤ d → phases_after plan t k p ≡ Some n → p < length plan.makers
  within_by zero t k p n l e = own_within t (λ q m f. absurd (let none = root_none t (omega arith) q in cc)) k p n e
  within_by (suc d) t k p n l e = elim (cases_eq t 0) [
    | inl z ↦ within_by d t k p n (omega arith) e
    | inr ne ↦
        let less = checked.tables.parents_first t (omega arith) in
        own_within t
        (λ q m f. child_within_so (parent_of plan t) (λ j r i g. within_by d (parent_of plan t) j r i (omega arith) g) t q m
        (ap (λ g. g q) (sym (first_phases_is plan checked t (omega arith))) ∙ f)) k p n e
  ]

  pub phaser_of_member : (t k p n : ℕ) → phases_after plan t k p ≡ Some n → p < length plan.makers
  phaser_of_member t k p n e = within_by t t k p n (omega arith) e
