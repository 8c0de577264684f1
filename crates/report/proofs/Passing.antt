-- A place in an ascending list of tasks that goes on with the tasks in order of number.
use Rattle.std.proofs.Common.{◌≡◌, ℕ, ◌+◌, ◌<◌, ◌≤◌, Bool, true, false, List, [], ◌∷◌, ◌++◌, length, refl, sym, ap, ◌∙◌, subst, inl, inr, arith, get_or, length-append}
use Rattle.std.specs.Prelude.{AllPairs, IsTrue, ◌↔◌}
use Rattle.std.proofs.lemmas.Bool.{cases_eq, cases_lt}
use Rattle.std.proofs.lemmas.List.{get_or_default, get_or_append_left, get_or_at}
use Rattle.armus_base.specs.declared.ids.TaskId.{TaskId}
use Rattle.armus_base.specs.declared.ending.TaskEnd.{TaskEnd}
use Rattle.armus_base.specs.declared.ending.TaskEnd.TheVariants.{Blocked, Done as HasEnded, Refused as WasRefused, Unforked as WasNotForked}
use Rattle.report.specs.declared.standing.Standing.{Standing}
use Rattle.report.specs.Standings.{Stands, AreStandings}
use Rattle.report.specs.inside.Merging.{IsNumberAt, IsIn}

-- the tasks before the place are below t, and the others are not
pub record HasPassed (tasks : List TaskId) (at t : ℕ) : Type 0 where
  pub inside : at ≤ length tasks
  pub before : (j : ℕ) (d : TaskId) → j < at → (get_or tasks j d).0 < t
  pub behind : (j : ℕ) (d : TaskId) → at ≤ j → j < length tasks → t ≤ (get_or tasks j d).0

-- how the first n tasks stand
pub record AreFirst (IsDead : ℕ → Type 0) (ends : List TaskEnd) (n : ℕ) (standings : List Standing) : Type 0 where
  pub sized : length standings ≡ n
  pub each : (t : ℕ) (e : TaskEnd) (s : Standing) → t < n → Stands (IsDead t) (get_or ends t e) (get_or standings t s)

module _ (tasks : List TaskId) (up : AllPairs (λ a b. a.0 < b.0) tasks) (at t : ℕ) (h : HasPassed tasks at t) where
  -- at the place it stands in the list
  pub there : IsNumberAt tasks at t → IsIn tasks t
  there (lt, e) = (at, lt, ap (λ n. record { 0 = n }) e)

  -- elsewhere it stands nowhere
  pub nowhere : (IsNumberAt tasks at t → ⊥) → IsIn tasks t → ⊥
  nowhere missing (k, lt, e) =
      let o : TaskId = record { 0 = t } in
      let f : (get_or tasks k o).0 ≡ t = ap (λ z. z.0) e in
      elim (cases_lt k at) [
        | inl less ↦ let a = h.before k o less in absurd (omega arith)
        | inr more ↦ elim (cases_eq at k) [
          | inl same ↦ missing (omega arith, subst (λ j. (get_or tasks j o).0 ≡ t) (sym same) f)
          | inr other ↦
              let a = h.behind at o (omega arith) (omega arith) in
              let b = up at k o (omega arith) lt in
              absurd (omega arith)
        ]
      ]

  -- the place goes past a task that stands there
  pub past : IsNumberAt tasks at t → HasPassed tasks (at + 1) (t + 1)
  past (lt, e) =
      let o : TaskId = record { 0 = t } in
      record {
        inside = omega arith;
        before = λ j d less.
            elim (cases_eq j at) [
              | inl same ↦ let f : (get_or tasks j d).0 ≡ t = ap (λ z. z.0) (ap (λ k. get_or tasks k d) same ∙ get_or_default tasks at d o lt) ∙ e in omega arith
              | inr other ↦ let a = h.before j d (omega arith) in omega arith
            ];
        behind = λ j d from in'.
            let b : (get_or tasks at d).0 < (get_or tasks j d).0 = up at j d (omega arith) in' in
            let f : (get_or tasks at d).0 ≡ t = ap (λ z. z.0) (get_or_default tasks at d o lt) ∙ e in
            omega arith;
      }

  -- and stays where the task is not there
  pub stay : (IsNumberAt tasks at t → ⊥) → HasPassed tasks at (t + 1)
  stay missing =
      record {
        inside = h.inside;
        before = λ j d less. let a = h.before j d less in omega arith;
        behind = λ j d from in'.
            let o : TaskId = record { 0 = t } in
            let a = h.behind j d from in' in
            elim (cases_eq (get_or tasks j d).0 t) [
              | inl same ↦ elim (cases_eq at j) [
                | inl here ↦
                    absurd
                    (missing (omega arith, subst (λ k. (get_or tasks k o).0 ≡ t) (sym here) (ap (λ z. z.0) (get_or_default tasks j o d in') ∙ same)))
                | inr other ↦
                    let b = h.behind at d (omega arith) (omega arith) in
                    let c : (get_or tasks at d).0 < (get_or tasks j d).0 = up at j d (omega arith) in' in
                    absurd (omega arith)
              ]
              | inr other ↦ omega arith
            ];
      }

-- whether a test at the place tells whether the task stands in the list
module _ (tasks : List TaskId) (up : AllPairs (λ a b. a.0 < b.0) tasks) (at t : ℕ) (h : HasPassed tasks at t) where
  pub told : (b : Bool) → IsTrue b ↔ IsNumberAt tasks at t → IsTrue b ↔ IsIn tasks t
  told true i = (λ x. there tasks up at t h (i.0 x), λ m. refl)
  told false i = (λ x. there tasks up at t h (i.0 x), λ m. absurd (nowhere tasks up at t h (λ x. let f : false ≡ true = i.1 x in cc) m))

-- a task stands alike by equivalent tests
pub stands_same : (A B : Type 0) → A ↔ B → (e : TaskEnd) (s : Standing) → Stands A e s → Stands B e s
stands_same A B i HasEnded s h = h
stands_same A B i (Blocked e) s (inl (a, q)) = inl (i.0 a, q)
stands_same A B i (Blocked e) s (inr (f, q)) = inr (λ b. f (i.1 b), q)
stands_same A B i (WasRefused e) s h = h
stands_same A B i WasNotForked s h = h

-- all tasks stand alike by equivalent tests
pub standings_same :
    (P Q : ℕ → Type 0) → ((t : ℕ) → P t ↔ Q t) → (ends : List TaskEnd) (all : List Standing) → AreStandings P ends all → AreStandings Q ends all
standings_same P Q i ends all h =
    record { sized = h.sized; each = λ t e s lt. stands_same (P t) (Q t) (i t) (get_or ends t e) (get_or all t s) (h.each t e s lt) }

-- one more task
pub first_more :
    (IsDead : ℕ → Type 0) (ends : List TaskEnd) (n : ℕ) (all : List Standing) (s : Standing) → AreFirst IsDead ends n all →
    ((e : TaskEnd) → Stands (IsDead n) (get_or ends n e) s) → AreFirst IsDead ends (n + 1) (all ++ s ∷ [])
first_more IsDead ends n all s h new =
    let k = length-append all (s ∷ []) in
    record {
      sized = omega (arith, k, h.sized);
      each = λ t e d lt.
          elim (cases_eq t n) [
            | inl same ↦
                let f = get_or_at all s [] d t (h.sized ∙ sym same) in
                rw f (subst (λ m. Stands (IsDead m) (get_or ends m e) s) (sym same) (new e))
            | inr other ↦ let f = get_or_append_left all (s ∷ []) d t (omega (arith, h.sized)) in rw f (h.each t e d (omega arith))
          ];
    }

-- all tasks
pub first_all : (IsDead : ℕ → Type 0) (ends : List TaskEnd) (all : List Standing) → AreFirst IsDead ends (length ends) all → AreStandings IsDead ends all
first_all IsDead ends all h = record { sized = h.sized; each = h.each }
