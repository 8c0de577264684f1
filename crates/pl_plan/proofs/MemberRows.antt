-- What a row of members says after a change.
use Rattle.std.proofs.Common.{◌≡◌, ℕ, zero, suc, ◌+◌, ◌-◌, ◌<◌, ◌≤◌, ◌⊎◌, replicate, inl, inr, Bool, false, List, length, sym, ◌∙◌, refl, arith}
use Rattle.std.specs.Prelude.{slice_index_or}
use Rattle.std.proofs.lemmas.Bool.{cases_lt}
use Rattle.std.proofs.lemmas.List.{length-append, length-replicate, get_or-set_same, get_or-set_other, get_or_append_left, get_or-append_right, get_or_past}
use Rattle.pl_plan.specs.calls.MemberRows.{lengthened, marked}

-- what a longer list of tests says
pub long_at : (n q : ℕ) (row : List Bool) → slice_index_or (lengthened n row) q false ≡ slice_index_or row q false
long_at n q row = by (cases_lt q (length row))
  where
    nothing_at : (m i : ℕ) → slice_index_or (replicate m false) i false ≡ false
    nothing_at zero i = refl
    nothing_at (suc m) zero = refl
    nothing_at (suc m) (suc i) = nothing_at m i

    by : (q < length row) ⊎ (length row ≤ q) → slice_index_or (lengthened n row) q false ≡ slice_index_or row q false
    by (inl l) = get_or_append_left row (replicate (n - length row) false) false q l
    by (inr l) =
        get_or-append_right row (replicate (n - length row) false) (length row) q false refl l ∙ nothing_at (n - length row) (q - length row)
        ∙ sym (get_or_past row q false l)

pub marked_same : (p : ℕ) (v : Bool) (row : List Bool) → slice_index_or (marked p v row) p false ≡ v
marked_same p v row =
    get_or-set_same (lengthened (p + 1) row) p v false
    (omega (arith, length-append row (replicate (p + 1 - length row) false), length-replicate (p + 1 - length row) false))

pub marked_other : (p q : ℕ) (v : Bool) (row : List Bool) → (q ≡ p → ⊥) → slice_index_or (marked p v row) q false ≡ slice_index_or row q false
marked_other p q v row n = get_or-set_other (lengthened (p + 1) row) p q v false n ∙ long_at (p + 1) q row
