-- The ops of a code that are left, behind so many.
use Rattle.std.proofs.Common.{◌≡◌, ◌≤◌, ℕ, zero, suc, List, [], ◌∷◌, Some, ap, arith, drop, length}
use Rattle.std.specs.Prelude.{slice_get}
use Rattle.armus_base.specs.declared.op.Op.{Op}

-- the first of them
pub first_left : (xs : List Op) (k : ℕ) (x : Op) (ys : List Op) → x ∷ ys ≡ drop k xs → slice_get xs k ≡ Some x
first_left [] zero x ys is = absurd (cc)
first_left [] (suc k) x ys is = absurd (cc)
first_left (z ∷ zs) zero x ys is = (let same : z ≡ x = cc in ap Some same)
first_left (z ∷ zs) (suc k) x ys is = first_left zs k x ys is

-- and none
pub none_left : (xs : List Op) (k : ℕ) → [] ≡ drop k xs → length xs ≤ k
none_left [] zero is = omega arith
none_left [] (suc k) is = omega arith
none_left (z ∷ zs) zero is = absurd (cc)
none_left (z ∷ zs) (suc k) is = (let l = none_left zs k is in omega arith)
