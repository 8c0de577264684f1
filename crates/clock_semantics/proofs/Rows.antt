-- Rows of numbers, one after the other.
use Rattle.std.proofs.Common.{◌≡◌, ℕ, zero, suc, ◌+◌, ◌<◌, List, [], ◌∷◌, ◌++◌, length, arith, ◌∙◌, ap, refl}
use Rattle.std.specs.Prelude.{slice_index_or}

-- so many numbers, from this one on
abbrev pub row : ℕ → ℕ → List ℕ
row n zero = []
row n (suc k) = n ∷ row (suc n) k

pub row_length : (n k : ℕ) → length (row n k) ≡ k
row_length n zero = refl
row_length n (suc k) = omega (arith, row_length (suc n) k)

pub row_more : (k n j : ℕ) → row n k ++ row (n + k) j ≡ row n (k + j)
row_more zero n j = ap (λ m. row m j) (let e : n + 0 ≡ n = omega arith in e) ∙ ap (row n) (let e : j ≡ 0 + j = omega arith in e)
row_more (suc k) n j =
    ap (λ m. n ∷ (row (suc n) k ++ row m j)) (let e : n + suc k ≡ suc n + k = omega arith in e)
    ∙ ap (λ xs. n ∷ xs) (row_more k (suc n) j) ∙ ap (row n) (let e : suc (k + j) ≡ suc k + j = omega arith in e)

pub row_at : (k n i : ℕ) → i < k → slice_index_or (row n k) i 0 ≡ n + i
row_at zero n i l = absurd (omega arith)
row_at (suc k) n zero l = omega arith
row_at (suc k) n (suc i) l = omega (arith, row_at k (suc n) i (omega arith))
