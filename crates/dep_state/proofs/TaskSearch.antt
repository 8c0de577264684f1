-- A search in an ascending list of tasks.
use Rattle.std.proofs.Common.{◌≡◌, ℕ, ◌<◌, List, length, sym, ap, ◌∙◌, inl, inr, arith, get_or}
use Rattle.std.specs.Prelude.{Contains}
use Rattle.std.specs.List.Sorted.{IsNonDecreasingBy}
use Rattle.std.proofs.lemmas.Bool.{cases_eq, cases_lt}
use Rattle.std.proofs.lemmas.List.{get_or_default}
use Rattle.armus_base.specs.declared.ids.TaskId.{TaskId}
use Rattle.dep_state.specs.calls.Picks.{Ascend, IsTaskAt}
use Rattle.dep_state.specs.inside.LowerBounds.{IsLowerBound}

-- the numbers of ascending tasks never fall
pub never_fall : (ts : List TaskId) → Ascend ts → IsNonDecreasingBy (λ (t : TaskId). t.0) ts
never_fall ts up i j d le lt =
    elim (cases_eq i j) [
      | inl same ↦ let e : (get_or ts i d).0 ≡ (get_or ts j d).0 = ap (λ k. (get_or ts k d).0) same in omega arith
      | inr ne ↦ omega (arith, up i j d (omega arith) lt)
    ]

-- a task of the list stands at its lower bound
pub at_lower_bound : (ts : List TaskId) (t : TaskId) (at : ℕ) → Ascend ts → IsLowerBound ts t at → Contains ts t → IsTaskAt ts t at
at_lower_bound ts t at up bound (k, lt, e) =
    let n : (get_or ts k t).0 ≡ t.0 = ap (λ x. x.0) e in
    elim (cases_eq k at) [
      | inl same ↦
          let in' : at < length ts = omega arith in
          (in', λ u. get_or_default ts at u t in' ∙ ap (λ i. get_or ts i t) (sym same) ∙ e)
      | inr ne ↦ elim (cases_lt k at) [
        | inl low ↦ absurd (omega (arith, bound.ahead k t low))
        | inr high ↦ absurd (omega (arith, bound.from at t (omega arith) (omega arith), up at k t (omega arith) lt))
      ]
    ]
