-- The cells of a phaser: where a task stands, and what a write and a new cell leave.
use Rattle.std.proofs.Common.{◌≡◌, ◌≢◌, ℕ, zero, suc, ◌+◌, ◌<◌, ◌≤◌, Bool, true, false, List, [], ◌∷◌, ◌++◌, ◌⊎◌, Option, Some, None, length, set, arith, sym, ◌∙◌, ap, subst, refl, inl, inr}
use Rattle.std.specs.Prelude.{slice_get, ◌==◌, if◌then◌else◌, option_and_then}
use Rattle.std.proofs.lemmas.Bool.{cases_eq, cases_lt}
use Rattle.std.proofs.lemmas.Bool.Decides.{nat_tests}
use Rattle.std.proofs.lemmas.Option.{slice_get_within}
use Rattle.armus_base.proofs.Lists.{slice_get-set_same, slice_get-set_other, some_at}
use Rattle.pl_core.specs.declared.cell.Cell.{Cell}
use Rattle.pl_core.specs.inside.Cells.{AreBelow, CellsAscend, IsLowerBoundIn, StandsInCell, StandsIn, phase_among, phase_in_cell}

pub slice_get-end : {A : Type 0} (xs : List A) (x : A) → slice_get (xs ++ x ∷ []) (length xs) ≡ Some x
slice_get-end [] x = refl
slice_get-end (y ∷ ys) x = slice_get-end ys x

pub slice_get-ahead : {A : Type 0} (xs : List A) (x y : A) (k : ℕ) → slice_get xs k ≡ Some y → slice_get (xs ++ x ∷ []) k ≡ Some y
slice_get-ahead [] x y k e = absurd (cc)
slice_get-ahead (z ∷ zs) x y zero e = e
slice_get-ahead (z ∷ zs) x y (suc k) e = slice_get-ahead zs x y k e

-- what stands in a list with one more element
pub slice_get-appended : {A : Type 0} (xs : List A) (x y : A) (k : ℕ) → slice_get (xs ++ x ∷ []) k ≡ Some y → slice_get xs k ≡ Some y ⊎ ((k ≡ length xs) × (x ≡ y))
slice_get-appended [] x y zero e = inr (refl, (cc))
slice_get-appended [] x y (suc k) e = absurd (cc)
slice_get-appended (z ∷ zs) x y zero e = inl e
slice_get-appended (z ∷ zs) x y (suc k) e =
    elim (slice_get-appended zs x y k e) [
      | inl there ↦ inl there
      | inr last ↦ inr (ap suc last.0, last.1)
    ]

is_same : (a b : ℕ) → a ≡ b → (a == b) ≡ true
is_same a b e = grind (arith, nat_tests)

is_other : (a b : ℕ) → a ≢ b → (a == b) ≡ false
is_other a b n = grind (arith, nat_tests)

-- the first cell is that of the task
first_is : (c : Cell) (cs : List Cell) (t : ℕ) → c.task ≡ t → phase_among (c ∷ cs) t ≡ c.phase
first_is c cs t e = ap (λ b. if b then c.phase else phase_among cs t) (is_same c.task t e)

-- and that of another
first_other : (c : Cell) (cs : List Cell) (t : ℕ) → c.task ≢ t → phase_among (c ∷ cs) t ≡ phase_among cs t
first_other c cs t n = ap (λ b. if b then c.phase else phase_among cs t) (is_other c.task t n)

-- the tasks of the cells ascend, from this number on
abbrev pub AscendFrom : ℕ → List Cell → Type 0
AscendFrom n [] = Unit {0}
AscendFrom n (c ∷ cs) = (n ≤ c.task) × AscendFrom (suc c.task) cs

-- no cell is of a lesser task than the first may be
pub from_first : (n : ℕ) (cs : List Cell) (k : ℕ) (c : Cell) → AscendFrom n cs → slice_get cs k ≡ Some c → n ≤ c.task
from_first n [] k c up e = absurd (cc)
from_first n (d ∷ ds) zero c up e =
    let is : d ≡ c = (cc) in
    subst (λ (x : Cell). n ≤ x.task) is up.0
from_first n (d ∷ ds) (suc k) c up e = (let later = from_first (suc d.task) ds k c up.1 e in let first = up.0 in omega arith)

-- the tasks of an earlier and of a later cell
pub ascending : (n : ℕ) (cs : List Cell) (j k : ℕ) (c d : Cell) → AscendFrom n cs → j < k → slice_get cs j ≡ Some c → slice_get cs k ≡ Some d → c.task < d.task
ascending n [] j k c d up l e f = absurd (cc)
ascending n (x ∷ xs) zero zero c d up l e f = absurd (omega arith)
ascending n (x ∷ xs) zero (suc k) c d up l e f =
    let is : x ≡ c = (cc) in
    subst (λ (y : Cell). y.task < d.task) is (let later = from_first (suc x.task) xs k d up.1 f in omega arith)
ascending n (x ∷ xs) (suc j) zero c d up l e f = absurd (omega arith)
ascending n (x ∷ xs) (suc j) (suc k) c d up l e f = ascending (suc x.task) xs j k c d up.1 (omega arith) e f

pub from_ascend : (n : ℕ) (cs : List Cell) → CellsAscend cs → ((k : ℕ) (c : Cell) → slice_get cs k ≡ Some c → n ≤ c.task) → AscendFrom n cs
from_ascend n [] up least = tt
from_ascend n (c ∷ cs) up least = (
  least 0 c refl,
  from_ascend (suc c.task) cs (λ j k x y l e f. up (suc j) (suc k) x y (omega arith) e f)
      (λ k d e. let less = up 0 (suc k) c d (omega arith) refl e in omega arith),
)

pub from_zero : (cs : List Cell) → CellsAscend cs → AscendFrom 0 cs
from_zero cs up = from_ascend 0 cs up (λ k c e. omega arith)

-- the phase of a task is that in its cell
pub among_at : (n : ℕ) (cs : List Cell) (k : ℕ) (c : Cell) → AscendFrom n cs → slice_get cs k ≡ Some c → phase_among cs c.task ≡ c.phase
among_at n [] k c up e = absurd (cc)
among_at n (d ∷ ds) zero c up e =
    let is : d ≡ c = (cc) in
    first_is d ds c.task (ap (λ (x : Cell). x.task) is) ∙ ap (λ (x : Cell). x.phase) is
among_at n (d ∷ ds) (suc k) c up e =
    first_other d ds c.task (λ same. let later = from_first (suc d.task) ds k c up.1 e in absurd (omega arith))
    ∙ among_at (suc d.task) ds k c up.1 e

pub among_stands : (cs : List Cell) (k t : ℕ) → CellsAscend cs → StandsInCell cs k t → phase_in_cell cs k ≡ phase_among cs t
among_stands cs k t up (c, e, is) =
    ap (option_and_then (λ (x : Cell). x.phase)) e ∙ sym (subst (λ u. phase_among cs u ≡ c.phase) is (among_at 0 cs k c (from_zero cs up) e))

-- a task without a cell is no member
pub among_none : (cs : List Cell) (t : ℕ) → (StandsIn cs t → ⊥) → phase_among cs t ≡ None
among_none [] t n = refl
among_none (c ∷ cs) t n =
    first_other c cs t (λ same. n (0, (c, refl, same)))
    ∙ among_none cs t (λ there. n (suc there.0, there.1))

-- who has a phase has a cell
pub stands_with_phase : (cs : List Cell) (t m : ℕ) → phase_among cs t ≡ Some m → StandsIn cs t
stands_with_phase [] t m e = absurd (cc)
stands_with_phase (c ∷ cs) t m e =
    elim (cases_eq c.task t) [
      | inl same ↦ (0, (c, refl, same))
      | inr other ↦
          let there = stands_with_phase cs t m (sym (first_other c cs t other) ∙ e) in
          (suc there.0, there.1)
    ]

-- a phase of a task is in some cell
pub in_some_cell : (cs : List Cell) (t m : ℕ) → phase_among cs t ≡ Some m → (k : ℕ) × (k < length cs) × (phase_in_cell cs k ≡ Some m)
in_some_cell [] t m e = absurd (cc)
in_some_cell (c ∷ cs) t m e =
    elim (cases_eq c.task t) [
      | inl same ↦ (0, omega arith, sym (first_is c cs t same) ∙ e)
      | inr other ↦
          let there = in_some_cell cs t m (sym (first_other c cs t other) ∙ e) in
          (suc there.0, (let l = there.1 in omega arith), there.2)
    ]

-- a phase in a cell is that of some task
pub of_some_task : (cs : List Cell) (k m : ℕ) → CellsAscend cs → phase_in_cell cs k ≡ Some m → (t : ℕ) × (phase_among cs t ≡ Some m)
of_some_task cs k m up e = go (slice_get cs k) refl e
  where
    go : (o : Option Cell) → slice_get cs k ≡ o → option_and_then (λ (x : Cell). x.phase) o ≡ Some m → (t : ℕ) × (phase_among cs t ≡ Some m)
    go None is f = absurd (cc)
    go (Some c) is f = (c.task, among_at 0 cs k c (from_zero cs up) is ∙ f)

-- a write to the cell of a task
pub ascend_set : (n : ℕ) (cs : List Cell) (k : ℕ) (c d : Cell) → AscendFrom n cs → slice_get cs k ≡ Some c → d.task ≡ c.task → AscendFrom n (set cs k d)
ascend_set n [] k c d up e same = absurd (cc)
ascend_set n (x ∷ xs) zero c d up e same =
    let is : x.task ≡ d.task = (let one : x ≡ c = (cc) in ap (λ (y : Cell). y.task) one ∙ sym same) in (
      subst (λ u. n ≤ u) is up.0,
      subst (λ u. AscendFrom (suc u) xs) is up.1,
    )
ascend_set n (x ∷ xs) (suc k) c d up e same = (up.0, ascend_set (suc x.task) xs k c d up.1 e same)

pub stays_ascending : (cs : List Cell) (k : ℕ) (c d : Cell) → CellsAscend cs → slice_get cs k ≡ Some c → d.task ≡ c.task → CellsAscend (set cs k d)
stays_ascending cs k c d up e same = λ i j x y. ascending 0 (set cs k d) i j x y (ascend_set 0 cs k c d (from_zero cs up) e same)

pub among_set_here : (cs : List Cell) (k : ℕ) (c d : Cell) → CellsAscend cs → slice_get cs k ≡ Some c → d.task ≡ c.task → phase_among (set cs k d) d.task ≡ d.phase
among_set_here cs k c d up e same =
    among_at 0 (set cs k d) k d (ascend_set 0 cs k c d (from_zero cs up) e same) (slice_get-set_same cs k d (slice_get_within cs k c e))

pub among_set_other :
    (cs : List Cell) (k : ℕ) (c d : Cell) (u : ℕ) → slice_get cs k ≡ Some c → d.task ≡ c.task → u ≢ d.task → phase_among (set cs k d) u ≡ phase_among cs u
among_set_other [] k c d u e same n = refl
among_set_other (x ∷ xs) zero c d u e same n =
    let is : x ≡ c = (cc) in
    first_other d xs u (λ f. n (sym f))
    ∙ sym (first_other x xs u (λ f. n (sym f ∙ ap (λ (y : Cell). y.task) is ∙ sym same)))
among_set_other (x ∷ xs) (suc k) c d u e same n = ap (λ o. if x.task == u then x.phase else o) (among_set_other xs k c d u e same n)

pub stands_set : (cs : List Cell) (k : ℕ) (c d : Cell) (u : ℕ) → slice_get cs k ≡ Some c → d.task ≡ c.task → StandsIn cs u → StandsIn (set cs k d) u
stands_set cs k c d u e same (j, (x, f, is)) =
    elim (cases_eq j k) [
      | inl here ↦
          let one : x ≡ c = (let g : slice_get cs k ≡ Some x = subst (λ v. slice_get cs v ≡ Some x) here f in cc) in
          (k, (d, slice_get-set_same cs k d (slice_get_within cs k c e), same ∙ ap (λ (y : Cell). y.task) (sym one) ∙ is))
      | inr other ↦ (j, (x, slice_get-set_other cs k j d other ∙ f, is))
    ]

pub phase_at_set_other : (cs : List Cell) (k j : ℕ) (d : Cell) → j ≢ k → phase_in_cell (set cs k d) j ≡ phase_in_cell cs j
phase_at_set_other cs k j d n = ap (option_and_then (λ (x : Cell). x.phase)) (slice_get-set_other cs k j d n)

-- one more cell behind all, without a phase
pub ascend_more : (n : ℕ) (cs : List Cell) (d : Cell) → AscendFrom n cs → AreBelow d.task cs → n ≤ d.task → AscendFrom n (cs ++ d ∷ [])
ascend_more n [] d up below l = (l, tt)
ascend_more n (c ∷ cs) d up below l = (
  up.0,
  ascend_more (suc c.task) cs d up.1 (λ k x e. below (suc k) x e) (let low = below 0 c refl in omega arith),
)

pub ascends_more : (cs : List Cell) (d : Cell) → CellsAscend cs → AreBelow d.task cs → CellsAscend (cs ++ d ∷ [])
ascends_more cs d up below = λ i j x y. ascending 0 (cs ++ d ∷ []) i j x y (ascend_more 0 cs d (from_zero cs up) below (omega arith))

pub among_more : (cs : List Cell) (d : Cell) (u : ℕ) → d.phase ≡ None → phase_among (cs ++ d ∷ []) u ≡ phase_among cs u
among_more [] d u none = both (d.task == u)
  where
    both : (b : Bool) → (if b then d.phase else None) ≡ None
    both true = none
    both false = refl
among_more (c ∷ cs) d u none = ap (λ o. if c.task == u then c.phase else o) (among_more cs d u none)

pub stands_more : (cs : List Cell) (d : Cell) (u : ℕ) → StandsIn cs u → StandsIn (cs ++ d ∷ []) u
stands_more cs d u (k, (c, e, is)) = (k, (c, slice_get-ahead cs d c k e, is))

pub below_more : (n : ℕ) (cs : List Cell) (d : Cell) → AreBelow n cs → d.task < n → AreBelow n (cs ++ d ∷ [])
below_more n cs d below l k c e =
    elim (slice_get-appended cs d c k e) [
      | inl there ↦ below k c there
      | inr last ↦ subst (λ (x : Cell). x.task < n) last.1 l
    ]

-- cells of which the last is not that of task t
pub below_last : (cs : List Cell) (t : ℕ) → CellsAscend cs → AreBelow (t + 1) cs → ((k : ℕ) → k + 1 ≡ length cs → StandsInCell cs k t → ⊥) → AreBelow t cs
below_last cs t up below last k c e =
    elim (cases_eq (suc k) (length cs)) [
      | inl end ↦ (let low = below k c e in let other : c.task ≢ t = λ is. last k (omega arith) (c, e, is) in omega (arith, other))
      | inr before ↦
          let within = slice_get_within cs k c e in
          let next = some_at cs (suc k) (omega (arith, before)) in
          (let up' = up k (suc k) c next.0 (omega arith) e next.1 in let low = below (suc k) next.0 next.1 in omega arith)
    ]

-- a task with a cell stands at its lower bound
pub at_lower_bound : (cs : List Cell) (t at : ℕ) → CellsAscend cs → IsLowerBoundIn cs t at → StandsIn cs t → StandsInCell cs at t
at_lower_bound cs t at up bound (k, (c, e, is)) =
    elim (cases_eq k at) [
      | inl same ↦ (c, subst (λ j. slice_get cs j ≡ Some c) same e, is)
      | inr ne ↦ elim (cases_lt k at) [
        | inl low ↦ absurd (let less = bound.ahead k c low e in omega arith)
        | inr high ↦
            let within = slice_get_within cs k c e in
            let here = some_at cs at (omega arith) in
            absurd (let least = bound.from at here.0 (omega arith) here.1 in let less = up at k here.0 c (omega (arith, ne)) here.1 e in omega arith)
      ]
    ]
