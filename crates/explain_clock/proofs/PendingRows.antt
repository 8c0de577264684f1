-- A test of a number in a row of so many tests.
use Rattle.std.proofs.Common.{◌≡◌, ℕ, ◌<◌, ◌≤◌, Bool, false, arith, refl}
use Rattle.std.specs.Prelude.{slice_index_or}
use Rattle.std.proofs.lemmas.List.{get_or_past}
use Rattle.armus_base.specs.Finals.{list_below}
use Rattle.armus_base.proofs.Below.{length-list_below}
use Rattle.explain_clock.proofs.Told.{list_at}

-- within the row
pub row_within : (f : ℕ → Bool) (n p : ℕ) → p < n → slice_index_or (list_below f n) p false ≡ f p
row_within f n p lt = list_at f n p (list_below f n) false refl lt

-- and behind its end
pub row_beyond : (f : ℕ → Bool) (n p : ℕ) → n ≤ p → slice_index_or (list_below f n) p false ≡ false
row_beyond f n p le = get_or_past (list_below f n) p false (let sized = length-list_below f n in omega (arith, sized))
