-- The sum of the values of a function at the numbers below a bound.
use Rattle.std.proofs.Common.{◌≡◌, ◌≢◌, ℕ, zero, suc, ◌<◌, ◌≤◌, ◌+◌, arith, sym, subst, refl, inl, inr}
use Rattle.std.proofs.lemmas.Bool.{cases_eq}

-- the sum of the first n values
unfoldable pub sum_below : (ℕ → ℕ) → ℕ → ℕ
sum_below f zero = 0
sum_below f (suc n) = sum_below f n + f n

pub sum_at_most : (f g : ℕ → ℕ) → ((u : ℕ) → f u ≤ g u) → (n : ℕ) → sum_below f n ≤ sum_below g n
unfolding sum_below
sum_at_most f g l zero = omega arith
sum_at_most f g l (suc n) = (let a = sum_at_most f g l n in let b = l n in omega arith)

-- the first value apart
pub sum_first : (f : ℕ → ℕ) (n : ℕ) → sum_below f (suc n) ≡ f 0 + sum_below (λ t. f (suc t)) n
unfolding sum_below
sum_first f zero = omega arith
sum_first f (suc n) = let a = sum_first f n in omega arith

-- one more at t
module _ (f g : ℕ → ℕ) (t : ℕ) (own : g t ≡ suc (f t)) (rest : (u : ℕ) → u ≢ t → g u ≡ f u) where
  sum_same : (n : ℕ) → n ≤ t → sum_below g n ≡ sum_below f n
  unfolding sum_below
  sum_same zero l = refl
  sum_same (suc n) l = (let a = sum_same n (omega arith) in let b = rest n (λ e. absurd (omega arith)) in omega arith)

  pub sum_more : (n : ℕ) → t < n → sum_below g n ≡ suc (sum_below f n)
  unfolding sum_below
  sum_more zero l = absurd (omega arith)
  sum_more (suc n) l =
      elim (cases_eq n t) [
        | inl e ↦
            (let a = sum_same n (omega arith) in
            let b : g n ≡ suc (f n) = subst (λ v. g v ≡ suc (f v)) (sym e) own in
            omega arith)
        | inr other ↦ (let a = sum_more n (omega arith) in let b = rest n other in omega arith)
      ]
