-- The first row at fault of a table, computed: of rows of any kind that have a number and a test. A program's tests and those of a clock text are such tables.
use Rattle.std.proofs.Common.{◌≡◌, ℕ, Bool, true, false, not, Some, None, Ok, Err, Option, List, [], ◌∷◌, ◌++◌, sym, ◌∙◌, ap, refl, inl, inr}
use Rattle.std.specs.Prelude.{Contains}
use Rattle.armus_base.proofs.Elements.{Contains-cons_cases, Contains-head, Contains-tail, nothing_in_nil}
use Rattle.pl_plan.specs.Unfolding.{Outcome, ◌>>=◌, fault, fault_unless}

-- this kind where the test fails, or else what is found later
abbrev pub kind_or : Bool → ℕ → Option ℕ → Option ℕ
kind_or true kind o = Some kind
kind_or false kind o = o

-- the state, or the fault of this kind at statement n
abbrev pub answer : {S : Type 0} → ℕ → Option ℕ → S → Outcome S
answer n None s = Ok s
answer n (Some kind) s = Err (fault kind n)

-- one test, and then the rest
pub step :
    {S : Type 0} (good : Bool) (kind n : ℕ) (rest : Option ℕ) (done : S) (o : Outcome S) → o ≡ answer n rest done →
    (fault_unless good kind n >>= λ _. o) ≡ answer n (kind_or (not good) kind rest) done
step true kind n rest done o e = e
step false kind n rest done o e = refl

module _ (R : Type 0) (number : R → ℕ) (fails : R → Bool) where
  -- the kind of the first of these rows at fault, or else this
  abbrev pub first_of : List R → Option ℕ → Option ℕ
  first_of [] rest = rest
  first_of (r ∷ rows) rest = kind_or (fails r) (number r) (first_of rows rest)

  pub first_of-append : (xs ys : List R) (rest : Option ℕ) → first_of (xs ++ ys) rest ≡ first_of xs (first_of ys rest)
  first_of-append [] ys rest = refl
  first_of-append (x ∷ xs) ys rest = ap (kind_or (fails x) (number x)) (first_of-append xs ys rest)

  -- no row is at fault
  abbrev pub NoneFails : List R → Type 0
  NoneFails rows = (r : R) → Contains rows r → fails r ≡ false

  one_more : (q : R) (rows : List R) → fails q ≡ false → NoneFails rows → NoneFails (q ∷ rows)
  one_more q rows is rest r m =
      elim (Contains-cons_cases q rows r m) [
        | inl same ↦ ap fails (sym same) ∙ is
        | inr later ↦ rest r later
      ]

  passes_by : (q : R) (rows : List R) (b : Bool) → fails q ≡ b → kind_or b (number q) (first_of rows None) ≡ None → (first_of rows None ≡ None → NoneFails rows) →
      NoneFails (q ∷ rows)
  passes_by q rows true is e rest = absurd (cc)
  passes_by q rows false is e rest = one_more q rows is (rest e)

  -- where no kind is found, no row is at fault
  pub passes_in : (rows : List R) → first_of rows None ≡ None → NoneFails rows
  passes_in [] none = λ r m. absurd (nothing_in_nil r m)
  passes_in (q ∷ rows) none = passes_by q rows (fails q) refl none (passes_in rows)

  -- the first row at fault of some rows
  pub record IsFirstIn (rows : List R) (kind : ℕ) : Type 0 where
    pub before : List R
    pub failing : R
    pub after : List R
    pub of_rows : rows ≡ before ++ (failing ∷ after)
    pub passed : NoneFails before
    pub fails_here : fails failing ≡ true
    pub kind_is : number failing ≡ kind

  first_by : (q : R) (rows : List R) (kind : ℕ) (b : Bool) → fails q ≡ b → kind_or b (number q) (first_of rows None) ≡ Some kind →
      (first_of rows None ≡ Some kind → IsFirstIn rows kind) → IsFirstIn (q ∷ rows) kind
  first_by q rows kind true is e rest =
      record {
        before = [];
        failing = q;
        after = rows;
        of_rows = refl;
        passed = λ r m. absurd (nothing_in_nil r m);
        fails_here = is;
        kind_is = cc;
      }
  first_by q rows kind false is e rest =
      let f = rest e in
      record {
        before = q ∷ f.before;
        failing = f.failing;
        after = f.after;
        of_rows = ap (λ z. q ∷ z) f.of_rows;
        passed = one_more q f.before is f.passed;
        fails_here = f.fails_here;
        kind_is = f.kind_is;
      }

  -- the kind that is found is that of the first row at fault
  pub first_in : (rows : List R) (kind : ℕ) → first_of rows None ≡ Some kind → IsFirstIn rows kind
  first_in [] kind e = absurd (cc)
  first_in (q ∷ rows) kind e = first_by q rows kind (fails q) refl e (first_in rows kind)

  -- and back
  pub none_kind : (rows : List R) → NoneFails rows → first_of rows None ≡ None
  none_kind [] all = refl
  none_kind (q ∷ rows) all =
      ap (λ b. kind_or b (number q) (first_of rows None)) (all q (Contains-head q rows)) ∙ none_kind rows (λ r m. all r (Contains-tail q rows r m))

  kind_behind : (before : List R) (failing : R) (after : List R) → NoneFails before → fails failing ≡ true →
      first_of (before ++ (failing ∷ after)) None ≡ Some (number failing)
  kind_behind [] failing after passed is = ap (λ b. kind_or b (number failing) (first_of after None)) is
  kind_behind (q ∷ before) failing after passed is =
      ap (λ b. kind_or b (number q) (first_of (before ++ (failing ∷ after)) None)) (passed q (Contains-head q before))
      ∙ kind_behind before failing after (λ r m. passed r (Contains-tail q before r m)) is

  pub kind_some : (rows : List R) (kind : ℕ) → IsFirstIn rows kind → first_of rows None ≡ Some kind
  kind_some rows kind f =
      ap (λ z. first_of z None) f.of_rows ∙ kind_behind f.before f.failing f.after f.passed f.fails_here ∙ ap Some f.kind_is
