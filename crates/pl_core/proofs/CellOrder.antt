-- The order of cells, as searches have it.
use Rattle.std.proofs.Common.{◌≡◌, ℕ, ◌<◌, ◌≤◌, List, Some, length, ap, inl, inr, arith, get_or, subst}
use Rattle.std.specs.Prelude.{slice_get}
use Rattle.std.specs.List.Sorted.{IsNonDecreasingBy}
use Rattle.std.proofs.lemmas.Bool.{cases_eq}
use Rattle.std.proofs.lemmas.Option.{get_or_from_slice_get, slice_get-get_or, slice_get_within}
use Rattle.pl_core.specs.declared.cell.Cell.{Cell}
use Rattle.pl_core.specs.inside.Cells.{CellsAscend}

pub never_fall : (cs : List Cell) → CellsAscend cs → IsNonDecreasingBy (λ (c : Cell). c.task) cs
never_fall cs up i j d le lt =
    elim (cases_eq i j) [
      | inl same ↦ let e : (get_or cs i d).task ≡ (get_or cs j d).task = ap (λ k. (get_or cs k d).task) same in omega arith
      | inr ne ↦
          (let less = up i j (get_or cs i d) (get_or cs j d) (omega (arith, ne)) (slice_get-get_or cs i d (omega arith)) (slice_get-get_or cs j d lt) in
          omega arith)
    ]

pub ahead_of : (cs : List Cell) (t at : ℕ) → ((k : ℕ) (c : Cell) → k < at → (get_or cs k c).task < t) →
    (k : ℕ) (c : Cell) → k < at → slice_get cs k ≡ Some c → c.task < t
ahead_of cs t at h k c l e = subst (λ (x : Cell). x.task < t) (get_or_from_slice_get cs k c c e) (h k c l)

pub from_on : (cs : List Cell) (t at : ℕ) → ((k : ℕ) (c : Cell) → at ≤ k → k < length cs → t ≤ (get_or cs k c).task) →
    (k : ℕ) (c : Cell) → at ≤ k → slice_get cs k ≡ Some c → t ≤ c.task
from_on cs t at h k c l e = subst (λ (x : Cell). t ≤ x.task) (get_or_from_slice_get cs k c c e) (h k c l (slice_get_within cs k c e))
