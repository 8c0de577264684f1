-- The tasks of a run in another order, and how often a number stands among them.
use Rattle.std.proofs.Common.{◌≡◌, ℕ, ◌≤◌, Bool, List, [], ◌∷◌, map, refl, ap, subst, arith, inl, inr, eq-eqb, eqb-true}
use Rattle.std.specs.Prelude.{Contains, ◌==◌, if◌then◌else◌}
use Rattle.std.specs.List.Sorted.{IsPermutation}
use Rattle.std.proofs.lemmas.Bool.{cases_eq, cases_Bool}
use Rattle.std.proofs.lemmas.List.Sorted.{All-permutation, Contains-permutation, IsPermutation-sym, sum_by-IsPermutation}
use Rattle.std.proofs.lemmas.List.Sums.{sum_by-cons}
use Rattle.armus_base.proofs.Elements.{Contains-cons_cases, Contains-head, Contains-tail, nothing_in_nil}
use Rattle.board.specs.calls.Seats.{Frame}
use Rattle.board_runs.specs.calls.Turns.{Working}
use Rattle.board_runs.specs.calls.TaskSeats.{AreTaskSeatsOf, IsSeatIn, how_many, own_number}
use Rattle.board_runs.proofs.Apart.{Differ}
use Rattle.board_runs.proofs.Between.{task_seats_same}

pub shuffled : (f : Frame) (xs ys : List Working) → IsPermutation xs ys → AreTaskSeatsOf f xs → AreTaskSeatsOf f ys
shuffled f xs ys p whole =
    let q = IsPermutation-sym xs ys p in
    record {
      board_tasks =
          task_seats_same f (IsSeatIn xs) (IsSeatIn ys) (λ k at. (at.0, Contains-permutation xs ys at.0 p at.1, at.2)) (λ k at. (at.0, Contains-permutation ys xs at.0 q at.1, at.2)) whole.board_tasks;
      no_child = All-permutation (λ (w : Working). w.children ≡ []) xs ys p whole.no_child;
      once = λ t. let e = sum_by-IsPermutation (λ (w : Working). if own_number w == t then 1 else 0) xs ys p in let l = whole.once t in omega arith;
      origin = λ w i. elim (whole.origin w (Contains-permutation ys xs w q i)) [
        | inl root ↦ inl root
        | inr o ↦ inr (o.0, Contains-permutation xs ys o.0 p o.1, o.2)
      ];
    }

-- what a task counts of those with number t
abbrev one_if : Bool → ℕ
one_if b = if b then 1 else 0

here_is : (w : Working) (t : ℕ) → own_number w ≡ t → one_if (own_number w == t) ≡ 1
here_is w t e = ap one_if (eq-eqb (own_number w) t e)

not_here : (w : Working) (t : ℕ) → (own_number w ≡ t → ⊥) → one_if (own_number w == t) ≡ 0
not_here w t other = elim (cases_Bool (own_number w == t)) [
  | inl yes_so ↦ absurd (other (eqb-true (own_number w) t yes_so))
  | inr so ↦ ap one_if so
]

some_here : (ws : List Working) (t : ℕ) → Contains (map own_number ws) t → 1 ≤ how_many t ws
some_here [] t i = absurd (nothing_in_nil t i)
some_here (w ∷ ws) t i =
    let s = sum_by-cons (λ (v : Working). if own_number v == t then 1 else 0) w ws in
    elim (Contains-cons_cases (own_number w) (map own_number ws) t i) [
      | inl here ↦ (let h = here_is w t here in omega arith)
      | inr there ↦ (let r = some_here ws t there in omega arith)
    ]

pub once_differ : (ws : List Working) → ((t : ℕ) → how_many t ws ≤ 1) → Differ (map own_number ws)
once_differ [] once = tt
once_differ (w ∷ ws) once = (
  (λ i.
      let s = sum_by-cons (λ (v : Working). if own_number v == own_number w then 1 else 0) w ws in
      let h = here_is w (own_number w) refl in
      let r = some_here ws (own_number w) i in
      let l = once (own_number w) in
      absurd (omega arith)),
  once_differ ws (λ t. let s = sum_by-cons (λ (v : Working). if own_number v == t then 1 else 0) w ws in let l = once t in omega arith),
)

none_here : (ws : List Working) (t : ℕ) → (Contains (map own_number ws) t → ⊥) → how_many t ws ≡ 0
none_here [] t no_way = refl
none_here (w ∷ ws) t no_way =
    let s = sum_by-cons (λ (v : Working). if own_number v == t then 1 else 0) w ws in
    let r = none_here ws t (λ i. no_way (Contains-tail (own_number w) (map own_number ws) t i)) in
    let h = not_here w t (λ same. no_way (subst (λ z. Contains (own_number w ∷ map own_number ws) z) same (Contains-head (own_number w) (map own_number ws)))) in
    omega arith

pub differ_once : (ws : List Working) → Differ (map own_number ws) → (t : ℕ) → how_many t ws ≤ 1
differ_once [] d t = omega arith
differ_once (w ∷ ws) d t =
    let s = sum_by-cons (λ (v : Working). if own_number v == t then 1 else 0) w ws in
    elim (cases_eq (own_number w) t) [
      | inl same ↦
          (let h = here_is w t same in
          let r = none_here ws t (subst (λ z. Contains (map own_number ws) z → ⊥) same d.0) in
          omega arith)
      | inr other ↦
          (let h = not_here w t other in
          let r = differ_once ws d.1 t in
          omega arith)
    ]
