-- What is asked for: beyond the phasers it does not matter, and the awaited phasers are asked with one task more.
use Rattle.std.proofs.Common.{◌≡◌, ℕ, zero, suc, ◌<◌, ◌+◌, Bool, true, false, List, Option, Some, None, length, set, replicate, add-one, arith, sym, ◌∙◌, ap, subst, refl, inl, inr}
use Rattle.std.specs.Prelude.{option_map, unwrap_or, ◌==◌, ◌||◌, if◌then◌else◌}
use Rattle.std.proofs.lemmas.Bool.{cases_eq}
use Rattle.std.proofs.lemmas.Bool.Decides.{nat_tests}
use Rattle.armus_base.specs.declared.event.Event.{Event}
use Rattle.armus_base.specs.Finals.{given_below, is_event_of, listed_phase, status_of, statuses_on}
use Rattle.armus_base.specs.Places.{some_before}
use Rattle.armus_base.specs.Plans.{Plan}
use Rattle.armus_base.specs.States.{State}
use Rattle.armus_base.proofs.Below.{given_below_same}
use Rattle.armus_base.specs.declared.ids.TaskId.{TaskId}
use Rattle.armus_base.specs.calls.StatusLists.{is_marked}
use Rattle.armus_base.proofs.Lists.{slice_get-set_same, slice_get-set_other}
use Rattle.pl_core.specs.inside.Supposed.{with_also}

-- to suppose that a task is published changes no phases
pub phases_also : (s : State) (also : Option (TaskId × Event)) → (with_also s also).phases ≡ s.phases
phases_also s None = refl
phases_also s (Some a) = refl

-- what is asked beyond the phasers does not matter
pub statuses_same :
    (plan : Plan) (s : State) (asked asked' : ℕ → Bool) → ((p : ℕ) → p < length plan.makers → asked p ≡ asked' p) →
    statuses_on plan s asked ≡ statuses_on plan s asked'
statuses_same plan s asked asked' same =
    given_below_same (status_of plan s asked) (status_of plan s asked') (length plan.parents)
    (λ t l. ap (λ ms. option_map (λ f. record { t = record { 0 = t }; event = f; phases = ms }) (s.published t)) (phases_same t))
  where
    phases_same : (t : ℕ) → given_below (listed_phase asked (s.phases t)) (length plan.makers) ≡ given_below (listed_phase asked' (s.phases t)) (length plan.makers)
    phases_same t =
        given_below_same (listed_phase asked (s.phases t)) (listed_phase asked' (s.phases t)) (length plan.makers)
        (λ p l. ap (λ b. if b then option_map (λ k. record { p = record { 0 = p }; n = k }) (s.phases t p) else None) (same p l))

-- the phasers of a list of copies
pub asked_of_copies : (n p : ℕ) (b : Bool) → p < n → is_marked (replicate n b) p ≡ b
asked_of_copies zero p b l = absurd (omega arith)
asked_of_copies (suc n) zero b l = refl
asked_of_copies (suc n) (suc p) b l = asked_of_copies n p b (omega arith)

-- the awaited phasers among the first tasks, with one task more
module _ (s : State) (asked : List Bool) (t : ℕ) (before : (p : ℕ) → p < length asked → is_marked asked p ≡ some_before (λ u. is_event_of p (s.published u)) t) where
  pub awaited_more :
      (e : Event) → s.published t ≡ Some e → (p : ℕ) → p < length asked →
      is_marked (set asked e.p.0 true) p ≡ some_before (λ u. is_event_of p (s.published u)) (t + 1)
  awaited_more e is p l =
      elim (cases_eq p e.p.0) [
        | inl same ↦
            subst (λ v. is_marked (set asked e.p.0 true) v ≡ some_before (λ u. is_event_of v (s.published u)) (t + 1)) (sym same)
            (ap (λ o. unwrap_or o false) (slice_get-set_same asked e.p.0 true (omega arith))
            ∙ ap (λ b. b || some_before (λ u. is_event_of e.p.0 (s.published u)) t) (sym (ap (is_event_of e.p.0) is ∙ itself e.p.0))
            ∙ ap (some_before (λ u. is_event_of e.p.0 (s.published u))) (sym (add-one t)))
        | inr other ↦
            ap (λ o. unwrap_or o false) (slice_get-set_other asked e.p.0 p true other)
            ∙ before p l
            ∙ ap (λ b. b || some_before (λ u. is_event_of p (s.published u)) t) (sym (ap (is_event_of p) is ∙ apart p e.p.0 other))
            ∙ ap (some_before (λ u. is_event_of p (s.published u))) (sym (add-one t))
      ]
    where
      itself : (p : ℕ) → (p == p) ≡ true
      itself p = grind (arith, nat_tests)

      apart : (p q : ℕ) → (p ≡ q → ⊥) → (q == p) ≡ false
      apart p q n = grind (arith, nat_tests)

  pub awaited_none :
      s.published t ≡ None → (p : ℕ) → p < length asked → is_marked asked p ≡ some_before (λ u. is_event_of p (s.published u)) (t + 1)
  awaited_none is p l =
      before p l
      ∙ ap (λ b. b || some_before (λ u. is_event_of p (s.published u)) t) (sym (ap (is_event_of p) is))
      ∙ ap (some_before (λ u. is_event_of p (s.published u))) (sym (add-one t))
