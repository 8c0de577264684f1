-- The next task with a phase below a number, by the places of cells.
use mathlib.Core.Path.{fun_ext}
use Rattle.std.proofs.Common.{◌≡◌, ℕ, ◌+◌, ◌^◌, ◌<◌, ◌≤◌, List, Option, Some, None, length, arith, sym, ◌∙◌, ap, subst, refl, inl, inr}
use Rattle.std.specs.Prelude.{IfSome, slice_get}
use Rattle.std.proofs.lemmas.Bool.{cases_eq, cases_lt}
use Rattle.std.proofs.lemmas.Option.{slice_get_within}
use Rattle.pl_core.specs.declared.cell.Cell.{Cell}
use Rattle.pl_core.specs.inside.Behind.{IsBelow, IsNextBelow}
use Rattle.pl_core.specs.inside.Cells.{CellsAscend, IsLowerBoundIn, phase_among, phase_in_cell}
use Rattle.pl_core.proofs.Cells.{among_stands, stands_with_phase}

-- none of the cells from one place on and ahead of another has a phase below n
abbrev pub NoneBetween : List Cell → ℕ → ℕ → ℕ → Type 0
NoneBetween cs n low high = (k : ℕ) → low ≤ k → k < high → IsBelow (phase_in_cell cs k) n → ⊥

pub none_yet : (cs : List Cell) (n low : ℕ) → NoneBetween cs n low low
none_yet cs n low k le l below = absurd (omega arith)

pub none_more : (cs : List Cell) (n low high : ℕ) → NoneBetween cs n low high → (IsBelow (phase_in_cell cs high) n → ⊥) → NoneBetween cs n low (high + 1)
none_more cs n low high none here k le l below =
    elim (cases_eq k high) [
      | inl same ↦ here (subst (λ j. IsBelow (phase_in_cell cs j) n) same below)
      | inr other ↦ none k le (omega (arith, other)) below
    ]

module _ (cs : List Cell) (up : CellsAscend cs) (n from low : ℕ) (bound : IsLowerBoundIn cs from low) where
  -- a task from the number on whose phase is below n has a cell from the first place on
  has_place : (u : ℕ) → from ≤ u → IsBelow (phase_among cs u) n → (k : ℕ) × (c : Cell) × (low ≤ k) × (slice_get cs k ≡ Some c) × (c.task ≡ u) × IsBelow (phase_in_cell cs k) n
  has_place u le (m, e, lt) =
      let (k, (c, f, is)) = stands_with_phase cs u m e in
      elim (cases_lt k low) [
        | inl ahead ↦ absurd (let less = bound.ahead k c ahead f in omega arith)
        | inr on ↦ (k, c, on, f, is, (m, among_stands cs k u up (c, f, is) ∙ e, lt))
      ]

  pub none_behind : NoneBetween cs n low (length cs) → IsNextBelow (phase_among cs) n from None
  none_behind none u le below =
      let (k, c, on, f, is, behind) = has_place u le below in
      none k on (slice_get_within cs k c f) behind

  pub found_behind : (at : ℕ) (c : Cell) → low ≤ at → slice_get cs at ≡ Some c → NoneBetween cs n low at → IsBelow (phase_in_cell cs at) n → IsNextBelow (phase_among cs) n from (Some c.task)
  found_behind at c le e none (m, has, lt) = (
    bound.from at c le e,
    (m, sym (among_stands cs at c.task up (c, e, refl)) ∙ has, lt),
    λ v on less below.
        let (k, d, later, f, is, behind) = has_place v on below in
        none k later (ahead_of_it k d f (omega arith)) behind,
  )
    where
      ahead_of_it : (k : ℕ) (d : Cell) → slice_get cs k ≡ Some d → d.task < c.task → k < at
      ahead_of_it k d f less =
          elim (cases_lt k at) [
            | inl l ↦ l
            | inr ge ↦ elim (cases_eq k at) [
              | inl same ↦
                  let one : c ≡ d = (let g : slice_get cs at ≡ Some d = subst (λ j. slice_get cs j ≡ Some d) same f in cc) in
                  let n : c.task ≡ d.task = ap (λ (x : Cell). x.task) one in
                  absurd (omega arith)
              | inr other ↦ absurd (let more = up at k c d (omega (arith, other)) e f in omega arith)
            ]
          ]

-- the same of the phases of tasks that are the same
pub next_same : (f g : ℕ → Option ℕ) (n from : ℕ) (found : Option ℕ) → ((u : ℕ) → g u ≡ f u) → IsNextBelow f n from found → IsNextBelow g n from found
next_same f g n from found same next = subst (λ h. IsNextBelow h n from found) (fun_ext (λ u. sym (same u))) next

-- it is a task, where only tasks have phases
pub next_inside :
    (f : ℕ → Option ℕ) (n from tasks : ℕ) (found : Option ℕ) → tasks < 2 ^ 32 → ((u m : ℕ) → f u ≡ Some m → u < tasks) → IsNextBelow f n from found →
    IfSome found (λ u. (u < tasks) × (u + 1 < 2 ^ 32))
next_inside f n from tasks None few inside next = tt
next_inside f n from tasks (Some u) few inside (le, (m, at, lt), none) = (let l = inside u m at in (l, omega arith))
