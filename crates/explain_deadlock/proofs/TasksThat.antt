-- The tasks that stand so, in order of number: they have each such task, and begin with the least.
use Rattle.std.proofs.Common.{◌≡◌, ℕ, zero, suc, ◌<◌, ◌≤◌, Bool, true, Option, Some, None, List, [], ◌∷◌, ◌++◌, length, arith, sym, ◌∙◌, ap, subst, inl, inr, refl}
use Rattle.std.specs.Prelude.{Contains, filter, slice_get}
use Rattle.std.proofs.lemmas.Bool.{cases_lt}
use Rattle.std.proofs.lemmas.List.Elements.{Contains-append_left, Contains-append_right, filter-append}
use Rattle.armus_base.specs.declared.ids.TaskId.{TaskId}
use Rattle.armus_base.specs.Finals.{list_below}
use Rattle.armus_base.proofs.Elements.{Contains-cons_cases, Contains-head, nothing_in_nil}
use Rattle.armus_base.proofs.Lists.{none_first}
use Rattle.explain_tasks.specs.declared.situation.Situation.{Situation}
use Rattle.explain_tasks.specs.Facts.{FactsValue, situation_of, tasks_that}
use Rattle.explain_tasks.proofs.Filters.{below_is, passed_from, passed_is}
use Rattle.explain_tasks.proofs.FirstThat.{first_stays}
use Rattle.explain_deadlock.proofs.NextInside.{first_contains}

-- each task below a bound is one of those below it
pub task_below : (n : ℕ) (t : TaskId) → t.0 < n → Contains (list_below (λ u. record { 0 = u }) n) t
task_below zero t lt = absurd (omega arith)
task_below (suc n) t lt =
    elim (cases_lt t.0 n) [
      | inl l ↦ Contains-append_left (list_below (λ u. record { 0 = u }) n) (record { 0 = n } ∷ []) t (task_below n t l)
      | inr l ↦
          let same : n ≡ t.0 = omega arith in
          Contains-append_right (list_below (λ u. record { 0 = u }) n) (record { 0 = n } ∷ []) t
          (subst (λ (k : ℕ). Contains {X = TaskId} (record { 0 = n } ∷ []) (record { 0 = k })) same (Contains-head (record { 0 = n }) []))
    ]

-- an element of a list means that one stands first
pub some_first : {A : Type 0} (xs : List A) (x : A) → Contains xs x → (y : A) × (slice_get xs 0 ≡ Some y)
some_first [] x m = absurd (nothing_in_nil x m)
some_first (y ∷ ys) x m = (y, refl)

module _ (p : TaskId → Bool) where
  abbrev passing : ℕ → List TaskId
  passing n = filter p (list_below (λ u. record { 0 = u }) n)

  number_below : (n : ℕ) (t : TaskId) → Contains (passing n) t → t.0 < n
  number_below n t m =
      let passed = passed_is p (list_below (λ u. record { 0 = u }) n) t m in
      let at = below_is (λ (u : ℕ). record { 0 = u }) n t passed.0 in
      subst (λ k. k < n) (ap (λ (v : TaskId). v.0) at.2) at.1

  pub first_least : (n : ℕ) (v : TaskId) → slice_get (passing n) 0 ≡ Some v → (t : TaskId) → t.0 < n → p t ≡ true → v.0 ≤ t.0
  first_least zero v is t lt passes = absurd (omega arith)
  first_least (suc n) v is t lt passes = by (slice_get (passing n) 0) refl (λ w first l. first_least n w first t l passes)
    where
      parts : slice_get (passing n ++ filter p (record { 0 = n } ∷ [])) 0 ≡ Some v
      parts = ap (λ xs. slice_get xs 0) (sym (filter-append p (list_below (λ u. record { 0 = u }) n) (record { 0 = n } ∷ []))) ∙ is

      by : (o : Option TaskId) → slice_get (passing n) 0 ≡ o → ((w : TaskId) → slice_get (passing n) 0 ≡ Some w → t.0 < n → w.0 ≤ t.0) → v.0 ≤ t.0
      by (Some w) first rest =
          let whole = first_stays (passing n) (filter p (record { 0 = n } ∷ [])) w first in
          let both : Some w ≡ Some v = sym whole ∙ parts in
          let same : w ≡ v = cc in
          elim (cases_lt t.0 n) [
            | inl l ↦ subst (λ (x : TaskId). x.0 ≤ t.0) same (rest w first l)
            | inr l ↦
                let below = number_below n w (first_contains (passing n) w first) in
                let number : w.0 ≡ v.0 = ap (λ (x : TaskId). x.0) same in
                omega arith
          ]
      by None none rest =
          let empty = none_first (passing n) none in
          let own : slice_get (filter p (record { 0 = n } ∷ [])) 0 ≡ Some v = ap (λ xs. slice_get (xs ++ filter p (record { 0 = n } ∷ [])) 0) (sym empty) ∙ parts in
          let there = (passed_is p (record { 0 = n } ∷ []) v (first_contains (filter p (record { 0 = n } ∷ [])) v own)).0 in
          let number : n ≡ v.0 =
          elim (Contains-cons_cases (record { 0 = n }) [] v there) [ inl e ↦ ap (λ (x : TaskId). x.0) e | inr none' ↦ absurd (nothing_in_nil v none') ] in
          elim (cases_lt t.0 n) [
            | inl l ↦
                absurd (nothing_in_nil t (subst (λ xs. Contains xs t) empty
                (passed_from p (list_below (λ u. record { 0 = u }) n) t (task_below n t l) passes)))
            | inr l ↦ omega arith
          ]

module _ (f : FactsValue) (test : Situation → Bool) where
  -- a task that stands so is one of them
  pub that_has : (t : TaskId) → t.0 < length f.standings → test (situation_of f t.0) ≡ true → Contains (tasks_that test f) t
  that_has t lt passes = passed_from (λ (u : TaskId). test (situation_of f u.0)) (list_below (λ u. record { 0 = u }) (length f.standings)) t (task_below (length f.standings) t lt) passes

  -- and the first is the least
  pub that_least : (v : TaskId) → slice_get (tasks_that test f) 0 ≡ Some v → (t : TaskId) → t.0 < length f.standings → test (situation_of f t.0) ≡ true → v.0 ≤ t.0
  that_least v is t lt passes = first_least (λ (u : TaskId). test (situation_of f u.0)) (length f.standings) v is t lt passes
