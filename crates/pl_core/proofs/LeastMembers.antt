-- The least member of a phaser: of all cells, and after one of them changed.
use Rattle.std.proofs.Common.{◌≡◌, ◌≢◌, ℕ, suc, ◌<◌, ◌≤◌, List, [], ◌∷◌, ◌++◌, Option, Some, None, length, arith, sym, ◌∙◌, ap, subst, refl, inl, inr}
use Rattle.std.proofs.lemmas.Bool.{cases_eq, cases_lt}
use Rattle.std.specs.Prelude.{option_and_then}
use Rattle.armus_base.proofs.Lists.{some_at}
use Rattle.pl_core.specs.declared.cell.Cell.{Cell}
use Rattle.pl_core.specs.declared.least.Least.{Least}
use Rattle.pl_core.specs.inside.Cells.{phase_in_cell}
use Rattle.pl_core.specs.inside.LeastPhases.{IsAtMost, IsLeastCell, IsLeastBelow}
use Rattle.pl_core.proofs.Cells.{slice_get-ahead, slice_get-end}

-- two phases of one cell are one
same_phase : {o : Option ℕ} (m n : ℕ) → o ≡ Some m → o ≡ Some n → m ≡ n
same_phase m n e f = (let g : Some m ≡ Some n = sym e ∙ f in cc)

-- a cell whose phase is at most that of each other one
pub alone_bound :
    (f : ℕ → Option ℕ) (k t n : ℕ) → f t ≡ Some n → ((u m : ℕ) → u < k → u ≢ t → f u ≡ Some m → n ≤ m) → (u m : ℕ) → u < k → f u ≡ Some m → n ≤ m
alone_bound f k t n there others u m l e = elim (cases_eq u t) [
  | inl same ↦ let one = same_phase n m there (subst (λ v. f v ≡ Some m) same e) in omega arith
  | inr other ↦ others u m l other e
]

-- no phase where neither this cell nor another has one
pub alone_none :
    (f : ℕ → Option ℕ) (k t : ℕ) → f t ≡ None → ((u m : ℕ) → u < k → u ≢ t → f u ≡ Some m → ⊥) → (u : ℕ) → u < k → f u ≡ None
alone_none f k t there others u l = elim (cases_eq u t) [
  | inl same ↦ subst (λ v. f v ≡ None) (sym same) there
  | inr other ↦ none_of (f u) (λ m e. others u m l other e)
]
  where
    none_of : (o : Option ℕ) → ((m : ℕ) → o ≡ Some m → ⊥) → o ≡ None
    none_of None n = refl
    none_of (Some m) n = absurd (n m refl)

-- at most this phase, and so at most a later one
pub at_most_trans : (o : Option ℕ) (n m : ℕ) → IsAtMost o n → n ≤ m → IsAtMost o m
at_most_trans None n m l k = absurd l
at_most_trans (Some i) n m l k = omega arith

-- what the cells before a place say is all that counts
pub least_same : (f g : ℕ → Option ℕ) (k : ℕ) (o : Option Least) → ((u : ℕ) → u < k → g u ≡ f u) → IsLeastBelow f k o → IsLeastBelow g k o
least_same f g k None same h = λ u l. same u l ∙ h u l
least_same f g k (Some l) same h = (h.0, same l.at h.0 ∙ h.1, λ u m i e. h.2 u m i (sym (same u i) ∙ e), λ u m i n e. h.3 u m i n (sym (same u i) ∙ e))

-- one more place without a phase
pub least_more : (f : ℕ → Option ℕ) (k : ℕ) (o : Option Least) → f k ≡ None → IsLeastBelow f k o → IsLeastBelow f (suc k) o
least_more f k None none h = λ u l. elim (cases_lt u k) [
  | inl before ↦ h u before
  | inr after ↦ (let is : u ≡ k = omega arith in subst (λ v. f v ≡ None) (sym is) none)
]
least_more f k (Some l) none h = (
  (let i = h.0 in omega arith),
  h.1,
  λ u m i e. elim (cases_lt u k) [
    | inl before ↦ h.2 u m before e
    | inr after ↦ absurd (let is : u ≡ k = omega arith in let no : None ≡ Some m = sym none ∙ subst (λ v. f v ≡ Some m) is e in cc)
  ],
  λ u m i n e. elim (cases_lt u k) [
    | inl before ↦ h.3 u m before n e
    | inr after ↦ absurd (let is : u ≡ k = omega arith in let no : None ≡ Some m = sym none ∙ subst (λ v. f v ≡ Some m) is e in cc)
  ],
)

length-more : {A : Type 0} (xs : List A) (x : A) → length (xs ++ x ∷ []) ≡ suc (length xs)
length-more [] x = refl
length-more (y ∷ ys) x = ap suc (length-more ys x)

-- one more cell without a phase
pub least_appended : (cs : List Cell) (d : Cell) (o : Option Least) → d.phase ≡ None → IsLeastBelow (phase_in_cell cs) (length cs) o →
    IsLeastBelow (phase_in_cell (cs ++ d ∷ [])) (length (cs ++ d ∷ [])) o
least_appended cs d o none h =
    subst (λ n. IsLeastBelow (phase_in_cell (cs ++ d ∷ [])) n o) (sym (length-more cs d))
    (least_more (phase_in_cell (cs ++ d ∷ [])) (length cs) o
    (ap (option_and_then (λ (x : Cell). x.phase)) (slice_get-end cs d) ∙ none)
    (least_same (phase_in_cell cs) (phase_in_cell (cs ++ d ∷ [])) (length cs) o
    (λ u l. let there = some_at cs u l in
    ap (option_and_then (λ (x : Cell). x.phase)) (slice_get-ahead cs d there.0 u there.1 ∙ sym there.1)) h))

pub kept_below : (cs : List Cell) (o : Option Least) → IsLeastCell cs o → IsLeastBelow (phase_in_cell cs) (length cs) o
kept_below cs None h = λ u l. h.none u refl l
kept_below cs (Some l) h = (h.within l refl, h.there l refl, λ u m i e. h.bound l u m refl i e, λ u m i n e. h.beside l u m refl i n e)

pub below_kept : (cs : List Cell) (o : Option Least) → IsLeastBelow (phase_in_cell cs) (length cs) o → IsLeastCell cs o
below_kept cs None h = record {
  within = λ l e. absurd (cc);
  there = λ l e. absurd (cc);
  bound = λ l u m e i f. absurd (cc);
  beside = λ l u m e i n f. absurd (cc);
  none = λ u e l. h u l;
}
below_kept cs (Some x) h = record {
  within = λ l e. (let is : x ≡ l = (cc) in subst (λ (y : Least). y.at < length cs) is h.0);
  there = λ l e. (let is : x ≡ l = (cc) in subst (λ (y : Least). phase_in_cell cs y.at ≡ Some y.phase) is h.1);
  bound = λ l u m e i f. (let is : x ≡ l = (cc) in subst (λ (y : Least). y.phase ≤ m) is (h.2 u m i f));
  beside = λ l u m e i n f.
      (let is : x ≡ l = (cc) in subst (λ (y : Least). y.others ≤ m) is (h.3 u m i (λ same. n (subst (λ (y : Least). u ≡ y.at) is same)) f));
  none = λ u e l. absurd (cc);
}
