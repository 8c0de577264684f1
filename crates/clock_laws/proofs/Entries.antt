-- Tables with one entry or one column changed.
use Rattle.std.proofs.Common.{◌≡◌, ◌≢◌, ℕ, zero, suc, Option, Some, None, List, [], ◌∷◌, drop, arith, sym, ap, subst, refl, inl, inr}
use Rattle.std.specs.Prelude.{slice_get}
use Rattle.std.proofs.lemmas.Bool.{cases_eq}
use Rattle.std.proofs.lemmas.Bool.Decides.{nat_tests}
use Rattle.clock_laws.specs.calls.Direct.{with_column, with_entry}

pub entry_at : {A : Type 0} (f : ℕ → ℕ → A) (p t : ℕ) (v : A) (q u : ℕ) → q ≡ p → u ≡ t → with_entry f p t v q u ≡ v
entry_at f p t v q u e g = grind (arith, nat_tests)

pub entry_other : {A : Type 0} (f : ℕ → ℕ → A) (p t : ℕ) (v : A) (q u : ℕ) → (q ≡ p → u ≢ t) → with_entry f p t v q u ≡ f q u
entry_other f p t v q u n = grind (arith, nat_tests)

pub column_at : {A : Type 0} (f : ℕ → ℕ → A) (t : ℕ) (v : A) (q u : ℕ) → u ≡ t → with_column f t v q u ≡ v
column_at f t v q u e = grind (arith, nat_tests)

pub column_other : {A : Type 0} (f : ℕ → ℕ → A) (t : ℕ) (v : A) (q u : ℕ) → u ≢ t → with_column f t v q u ≡ f q u
column_other f t v q u n = grind (arith, nat_tests)

-- what holds at one entry and at each other one holds everywhere
pub everywhere :
    (P : ℕ → ℕ → Type 0) (p t : ℕ) → P p t → ((q u : ℕ) → (q ≡ p → u ≢ t) → P q u) → (q u : ℕ) → P q u
everywhere P p t here other q u =
    elim (cases_eq q p) [
      | inl e ↦ elim (cases_eq u t) [
        | inl g ↦ subst (λ v. P v u) (sym e) (subst (λ v. P p v) (sym g) here)
        | inr n ↦ other q u (λ _. n)
      ]
      | inr n ↦ other q u (λ e. absurd (n e))
    ]

-- what is left of a list begins with its next element
pub drop_next : {A : Type 0} (k : ℕ) (xs : List A) (y : A) (ys : List A) → drop k xs ≡ y ∷ ys → slice_get xs k ≡ Some y × drop (suc k) xs ≡ ys
drop_next zero [] y ys e = absurd (cc)
drop_next zero (x ∷ xs) y ys e = (cc, cc)
drop_next (suc k) [] y ys e = absurd (cc)
drop_next (suc k) (x ∷ xs) y ys e = drop_next k xs y ys e

-- all of a list is left where nothing of it is taken
pub drop_none : {A : Type 0} (xs : List A) → drop zero xs ≡ xs
drop_none [] = refl
drop_none (x ∷ xs) = refl

pub some_is : {A : Type 0} {x y : A} → Some x ≡ Some y → x ≡ y
some_is {x = x} {y = y} e = ap (λ o. given x o) e
  where
    given : {A : Type 0} → A → Option A → A
    given d None = d
    given d (Some v) = v
