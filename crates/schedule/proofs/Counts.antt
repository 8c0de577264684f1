-- Counts below a bound, and cells in a table.
use Rattle.std.proofs.Common.{◌≡◌, ◌<◌, ◌≤◌, ◌+◌, ◌*◌, ℕ, zero, suc, Bool, true, false, arith, sym, ap, inl, inr, refl, ◌∙◌}
use Rattle.std.specs.Prelude.{if◌then◌else◌}
use Rattle.std.proofs.lemmas.Bool.{cases_eq}
use Rattle.std.proofs.Math.Nat.{mul-le-mul_right}
use Rattle.schedule.specs.Passes.{count_below}

count_one : (b : Bool) (n : ℕ) → b ≡ true → (if b then n + 1 else n) ≡ n + 1
count_one true n e = refl
count_one false n e = absurd (cc)

count_more : (b : Bool) (n : ℕ) → n ≤ (if b then n + 1 else n)
count_more true n = omega arith
count_more false n = omega arith

-- what passes the test below n is not counted below itself
pub count_below_less : (test : ℕ → Bool) (k n : ℕ) → k < n → test k ≡ true → count_below test k < count_below test n
count_below_less test k zero l e = absurd (omega arith)
count_below_less test k (suc n) l e =
    elim (cases_eq k n) [
      | inl same ↦ (let one = count_one (test n) (count_below test n) (ap test (sym same) ∙ e) in let here : count_below test k ≡ count_below test n = ap (count_below test) same in omega arith)
      | inr other ↦ (let before = count_below_less test k n (omega arith) e in let more = count_more (test n) (count_below test n) in omega arith)
    ]

-- a cell in a table of w rows and a columns
pub cell_within : (i j w a : ℕ) → i < w → j < a → i * a + j < w * a
cell_within i j w a row column =
    let rows : (i + 1) * a ≤ w * a = mul-le-mul_right a (omega arith) in
    grind (arith, rows)

-- counts by equal tests
pub count_same : (test is : ℕ → Bool) (n : ℕ) → ((k : ℕ) → test k ≡ is k) → count_below test n ≡ count_below is n
count_same test is zero same = refl
count_same test is (suc n) same =
    ap (λ b. if b then count_below test n + 1 else count_below test n) (same n) ∙ ap (λ c. if is n then c + 1 else c) (count_same test is n same)
