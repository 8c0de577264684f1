-- A task is drawn by one before it, also with one task more.
use Rattle.std.proofs.Common.{◌≡◌, ℕ, ◌-◌, ◌<◌, true, Some, None, Option, List, [], ◌∷◌, ◌++◌, length, arith, ◌∙◌, ap, subst, refl, inl, inr}
use Rattle.std.specs.Prelude.{slice_index_or}
use Rattle.std.proofs.lemmas.Bool.{cases_lt, cases_eq, eqb-true, false≢true}
use Rattle.std.proofs.lemmas.List.{get_or_past, get_or_append_left, get_or-append_right, length-append}
use Rattle.armus_base.specs.declared.ids.TaskId.{TaskId}
use Rattle.armus_base.specs.Numbers.{task}
use Rattle.pl_plan.specs.Unfolding.{is_parent}

pub drawn_more :
    (parents : List (Option TaskId)) (t : ℕ) → t < length parents → ((c u : ℕ) → is_parent u (slice_index_or parents c None) ≡ true → u < c) →
    (c u : ℕ) → is_parent u (slice_index_or (parents ++ Some (task t) ∷ []) c None) ≡ true → u < c
drawn_more parents t here drawn c u is =
    elim (cases_lt c (length parents)) [
      | inl l ↦ drawn c u (subst (λ o. is_parent u o ≡ true) (get_or_append_left parents (Some (task t) ∷ []) None c l) is)
      | inr l ↦ elim (cases_eq c (length parents)) [
        | inl same ↦
            let last : slice_index_or (parents ++ Some (task t) ∷ []) c None ≡ Some (task t) =
            ap (λ n. slice_index_or (parents ++ Some (task t) ∷ []) n None) same ∙
            get_or-append_right parents (Some (task t) ∷ []) (length parents) (length parents) None refl (omega arith)
            ∙ ap (λ n. slice_index_or (Some (task t) ∷ []) n None) (let z : length parents - length parents ≡ 0 = omega arith in z) in
            let by = eqb-true u t (subst (λ o. is_parent u o ≡ true) last is) in
            omega arith
        | inr other ↦
            let none = get_or_past (parents ++ Some (task t) ∷ []) c None (omega (arith, length-append parents (Some (task t) ∷ []))) in
            absurd (false≢true (subst (λ o. is_parent u o ≡ true) none is))
      ]
    ]
