-- The tasks that are done after a run, as a list.
use Rattle.std.proofs.Common.{◌≡◌, ℕ, zero, suc, ◌<◌, Bool, true, false, ◌&&◌, not, Some, None, Option, List, [], ◌∷◌, length, refl, sym, ap, subst, ◌⊎◌, inl, inr, arith}
use Rattle.std.specs.Prelude.{Contains, ◌↔◌, is_some}
use Rattle.std.proofs.lemmas.Bool.{and_from, and_parts, cases_Bool, cases_eq}
use Rattle.std.proofs.lemmas.Option.{slice_get_within}
use Rattle.armus_base.specs.Counts.{IsDistinct}
use Rattle.armus_base.specs.Plans.{Action, action_at}
use Rattle.armus_base.specs.Runs.{places, state_after}
use Rattle.armus_base.proofs.Elements.{Contains-cons_cases, Contains-head, Contains-tail, nothing_in_nil}
use Rattle.armus_base.proofs.ForkedTasks.{forked_within}
use Rattle.monitor_runs.specs.EndedTraces.{HasAllDone}

-- the numbers below n that pass a test, as a list
passing_below : (test : ℕ → Bool) (n : ℕ) → (l : List ℕ) × IsDistinct l × ((t : ℕ) → Contains l t ↔ ((t < n) × (test t ≡ true)))
passing_below test zero = ([], tt, λ t. ((λ within. absurd (nothing_in_nil t within)), λ low. absurd (let l = low.0 in omega arith)))
passing_below test (suc n) = by_test (cases_Bool (test n)) (passing_below test n)
  where
    by_test :
        (test n ≡ true) ⊎ (test n ≡ false) → ((l : List ℕ) × IsDistinct l × ((t : ℕ) → Contains l t ↔ ((t < n) × (test t ≡ true)))) →
        (l : List ℕ) × IsDistinct l × ((t : ℕ) → Contains l t ↔ ((t < suc n) × (test t ≡ true)))
    by_test (inl on) (l, distinct, exact) = (
      n ∷ l,
      ((λ within. let low = ((exact n).0 within).0 in absurd (omega arith)), distinct),
      λ t. (
        (λ within. elim (Contains-cons_cases n l t within) [
          | inl here ↦ subst (λ x. (x < suc n) × (test x ≡ true)) here (omega arith, on)
          | inr there ↦ (let low = (exact t).0 there in let l = low.0 in (omega arith, low.1))
        ]),
        λ low. elim (cases_eq t n) [
          | inl same ↦ subst (Contains (n ∷ l)) (sym same) (Contains-head n l)
          | inr other ↦ Contains-tail n l t ((exact t).1 (let b = low.0 in omega arith, low.1))
        ],
      ),
    )
    by_test (inr off) (l, distinct, exact) = (
      l,
      distinct,
      λ t. (
        (λ within. let low = (exact t).0 within in let l = low.0 in (omega arith, low.1)),
        λ low. elim (cases_eq t n) [
          | inl same ↦ absurd (let a = low.1 in let b = ap test same in cc)
          | inr other ↦ (exact t).1 (let b = low.0 in omega arith, low.1)
        ],
      ),
    )

-- nothing is left
none_left : (o : Option Action) → not (is_some o) ≡ true → o ≡ None
none_left None none = refl
none_left (Some x) none = absurd (let e : false ≡ true = none in cc)

pub has_all_done : HasAllDone
has_all_done plan h checked run = (found.0, found.1, λ t. (is_done t, is_found t))
  where
    test : ℕ → Bool
    test t = (state_after h).forked t && not (is_some (action_at plan t (places h t).done))

    found : (l : List ℕ) × IsDistinct l × ((t : ℕ) → Contains l t ↔ ((t < length plan.parents) × (test t ≡ true)))
    found = passing_below test (length plan.parents)

    is_done : (t : ℕ) → Contains found.0 t → ((state_after h).forked t ≡ true) × (action_at plan t (places h t).done ≡ None)
    is_done t within =
        let parts = and_parts ((state_after h).forked t) (not (is_some (action_at plan t (places h t).done))) ((found.2 t).0 within).1 in
        (parts.0, none_left (action_at plan t (places h t).done) parts.1)

    is_found : (t : ℕ) → ((state_after h).forked t ≡ true) × (action_at plan t (places h t).done ≡ None) → Contains found.0 t
    is_found t done =
        (found.2 t).1 (
          forked_within plan (slice_get_within plan.parents 0 None checked.tables.root) h run t done.0,
          and_from ((state_after h).forked t) (not (is_some (action_at plan t (places h t).done))) done.0 (ap (λ o. not (is_some o)) done.1),
        )
