-- A search for a number among known tasks, and in the list.
use Rattle.std.proofs.Common.{◌≡◌, ◌==◌, ℕ, zero, suc, ◌<◌, ◌≤◌, ◌-◌, Bool, true, false, ◌&&◌, List, [], ◌∷◌, ◌++◌, length, take, map, sym, ◌∙◌, ap, ◌⊎◌, inl, inr, arith, get_or, Bor}
use Rattle.std.specs.Prelude.{Contains, MatchBool}
use Rattle.std.specs.List.{list_any}
use Rattle.std.specs.List.Sorted.{IsNonDecreasingBy}
use Rattle.std.proofs.lemmas.Bool.{and_from, and_parts, cases_Bool, cases_lt, eq-eqb, eqb-true}
use Rattle.std.proofs.lemmas.List.{get_or_default, take_all}
use Rattle.std.proofs.lemmas.List.Sorted.{IsNonDecreasingBy-push}
use Rattle.armus_base.proofs.Elements.{Contains-cons_cases, from_map, nothing_in_nil}
use Rattle.monitor_laws.specs.Lawful.{AreAscending}
use Rattle.monitor_laws.specs.States.{Participant}
use Rattle.monitor_laws.proofs.Filters.{any_from, any_is}
use Rattle.monitor_search.specs.Known.{has_stuck_number, known_task}
use Rattle.monitor_search.specs.inside.Numbers.{HasNumberAt, IsPlaceOfNumber, IsFirstListed, NeverFall}
use Rattle.monitor_search.specs.inside.Partings.{referred}
use Rattle.monitor_search.proofs.References.{in_referred}

-- a number that somebody has stands at the first place from it on
pub at_first : (known : List (ℕ × List ℕ)) (number at : ℕ) (t : ℕ × List ℕ) → NeverFall known → IsPlaceOfNumber known number at → Contains known t → t.0 ≡ number → HasNumberAt known number at
at_first known number at t up bound (k, lt, e) same =
    let n : (get_or known k t).0 ≡ number = ap (λ (x : ℕ × List ℕ). x.0) e ∙ same in
    elim (cases_lt k at) [
      | inl low ↦ absurd (omega (arith, bound.ahead k t low))
      | inr high ↦
          (let inside : at < length known = omega arith in
          let least = bound.from at t (omega arith) inside in
          let below = up at k t (omega arith) lt in
          let here : (get_or known at t).0 ≡ number = omega arith in
          (inside, λ x. ap (λ (y : ℕ × List ℕ). y.0) (get_or_default known at x t inside) ∙ here))
    ]

-- a task that stands somewhere with a number is one of them
pub number_seen : (known : List (ℕ × List ℕ)) (number at : ℕ) → HasNumberAt known number at → true ≡ has_stuck_number known number
number_seen known number at here =
    let t : ℕ × List ℕ = get_or known at (0, []) in
    let is : get_or known at t ≡ t = get_or_default known at t (0, []) here.0 in
    sym (any_from (λ (x : ℕ × List ℕ). x.0 == number) known t (at, here.0, is) (eq-eqb t.0 number (here.1 (0, []))))

pub number_told : (known : List (ℕ × List ℕ)) (number at : ℕ) (r : Bool) → NeverFall known → IsPlaceOfNumber known number at →
    MatchBool r (HasNumberAt known number at) (HasNumberAt known number at → ⊥) → r ≡ has_stuck_number known number
number_told known number at true up bound here = number_seen known number at here
number_told known number at false up bound none = elim (cases_Bool (has_stuck_number known number)) [
  | inr off ↦ sym off
  | inl on ↦
      absurd (let t = any_is (λ (x : ℕ × List ℕ). x.0 == number) known on in
      none (at_first known number at t.0 up bound t.1 (eqb-true t.0.0 number t.2)))
]

-- one more behind those that are no greater
pub pushed_never_falls : (known : List (ℕ × List ℕ)) (t : ℕ × List ℕ) → NeverFall known → ((x : ℕ × List ℕ) → Contains known x → x.0 ≤ t.0) → NeverFall (known ++ t ∷ [])
pushed_never_falls known t up below =
    IsNonDecreasingBy-push (λ (x : ℕ × List ℕ). x.0) known t up
    (λ d some.
    let last = length known - 1 in
    let within : last < length known = omega arith in
    below (get_or known last d) (last, within, get_or_default known last (get_or known last d) d within))

-- those of ascending ones before a place have lower numbers
pub lower_before : (items : List (Bor Participant)) (i : ℕ) (r : Bor Participant) → AreAscending (referred items) → i < length items → r ≡ get_or items i r → (x : Participant) →
    Contains (referred (take i items)) x → x.number < r.now.number
lower_before [] i r up within is x before = absurd (omega arith)
lower_before (y ∷ ys) zero r up within is x before = absurd (nothing_in_nil x before)
lower_before (y ∷ ys) (suc i) r up within is x before = elim (Contains-cons_cases y.now (referred (take i ys)) x before) [
  | inl here ↦ (let less = up.0 r.now (in_referred ys i r (omega arith) is) in let e = ap (λ (v : Participant). v.number) here in omega arith)
  | inr there ↦ lower_before ys i r up.1 (omega arith) is x there
]

pub lower_in_front : (us : List Participant) (i : ℕ) (u : Participant) → AreAscending us → i < length us → u ≡ get_or us i u → (x : Participant) → Contains (take i us) x → x.number < u.number
lower_in_front [] i u up within is x before = absurd (omega arith)
lower_in_front (y ∷ ys) zero u up within is x before = absurd (nothing_in_nil x before)
lower_in_front (y ∷ ys) (suc i) u up within is x before = elim (Contains-cons_cases y (take i ys) x before) [
  | inl here ↦ (let less = up.0 u (i, omega arith, sym is) in let e = ap (λ (v : Participant). v.number) here in omega arith)
  | inr there ↦ lower_in_front ys i u up.1 (omega arith) is x there
]

-- of tasks that are known the numbers
pub known_below : (us : List Participant) (number : ℕ) → ((u : Participant) → Contains us u → u.number < number) → (x : ℕ × List ℕ) → Contains (map known_task us) x → x.0 ≤ number
known_below us number below x within =
    let u = from_map known_task us x within in
    let less = below u.0 u.1 in
    let e = ap (λ (t : ℕ × List ℕ). t.0) u.2 in
    omega arith

-- the numbers of the list never fall
pub numbers_never_fall : (us : List Participant) → AreAscending us → IsNonDecreasingBy (λ (u : Participant). u.number) us
numbers_never_fall [] up i j d le lt = absurd (omega arith)
numbers_never_fall (u ∷ us) up zero zero d le lt = omega arith
numbers_never_fall (u ∷ us) up zero (suc j) d le lt =
    let less = up.0 (get_or us j d) (j, omega arith, get_or_default us j (get_or us j d) d (omega arith)) in
    omega arith
numbers_never_fall (u ∷ us) up (suc i) zero d le lt = absurd (omega arith)
numbers_never_fall (u ∷ us) up (suc i) (suc j) d le lt = numbers_never_fall us up.1 i j d (omega arith) (omega arith)

-- the numbers of the list ascend
ascend : (us : List Participant) → AreAscending us → (i j : ℕ) (d : Participant) → i < j → j < length us → (get_or us i d).number < (get_or us j d).number
ascend [] up i j d lt within = absurd (omega arith)
ascend (u ∷ us) up zero zero d lt within = absurd (omega arith)
ascend (u ∷ us) up zero (suc j) d lt within = up.0 (get_or us j d) (j, omega arith, get_or_default us j (get_or us j d) d (omega arith))
ascend (u ∷ us) up (suc i) zero d lt within = absurd (omega arith)
ascend (u ∷ us) up (suc i) (suc j) d lt within = ascend us up.1 i j d (omega arith) (omega arith)

-- who stands at a place and has the number is the first from which on nobody has a lower one
pub first_numbered : (us : List Participant) (number at : ℕ) → AreAscending us → at < length us → ((u : Participant) → (get_or us at u).number ≡ number) → IsFirstListed us number at
first_numbered us number at up within is = record {
  inside = omega arith;
  ahead = λ k u lt. let less = ascend us up k at u lt within in let here = is u in omega arith;
  from = λ k u le lt. let least = numbers_never_fall us up at k u le lt in let here = is u in omega arith;
}

-- where nobody from the first place on has the number, nobody has it
pub none_numbered : (us : List Participant) (number at : ℕ) → IsNonDecreasingBy (λ (u : Participant). u.number) us → IsFirstListed us number at →
    (length us ≤ at) ⊎ ((x : Participant) × (at < length us) × (x ≡ get_or us at x) × (x.number ≡ number → ⊥)) →
    (u : Participant) → Contains us u → u.number ≡ number → ⊥
none_numbered us number at up bound end u (k, lt, e) same =
    let n : (get_or us k u).number ≡ number = ap (λ (x : Participant). x.number) e ∙ same in
    elim (cases_lt k at) [
      | inl low ↦ absurd (omega (arith, bound.ahead k u low))
      | inr high ↦ elim end [
        | inl past ↦ absurd (omega arith)
        | inr (x, inside, is, other) ↦
            (let least = bound.from at u (omega arith) inside in
            let below = up at k u (omega arith) lt in
            let there : (get_or us at u).number ≡ x.number = ap (λ (y : Participant). y.number) (get_or_default us at u x inside ∙ sym is) in
            other (omega arith))
      ]
    ]

-- somebody of the list who passes and has one of these numbers
pub any_numbered : (test : Participant → Bool) (list : List Participant) (tasks : List ℕ) →
    list_any (λ k. list_any (λ u. test u && u.number == k) list) tasks ≡ list_any (λ u. test u && list_any (λ k. k == u.number) tasks) list
any_numbered test list tasks = elim (cases_Bool (list_any (λ u. test u && list_any (λ k. k == u.number) tasks) list)) [
  | inl on ↦
      (let u = any_is (λ u. test u && list_any (λ k. k == u.number) tasks) list on in
      let parts = and_parts (test u.0) (list_any (λ k. k == u.0.number) tasks) u.2 in
      let k = any_is (λ x. x == u.0.number) tasks parts.1 in
      any_from (λ k. list_any (λ u. test u && u.number == k) list) tasks k.0 k.1
      (any_from (λ u. test u && u.number == k.0) list u.0 u.1 (and_from (test u.0) (u.0.number == k.0) parts.0 (eq-eqb u.0.number k.0 (sym (eqb-true k.0 u.0.number k.2)))))
      ∙ sym on)
  | inr off ↦ elim (cases_Bool (list_any (λ k. list_any (λ u. test u && u.number == k) list) tasks)) [
    | inr none ↦ none ∙ sym off
    | inl on ↦
        absurd (let k = any_is (λ k. list_any (λ u. test u && u.number == k) list) tasks on in
        let u = any_is (λ u. test u && u.number == k.0) list k.2 in
        let parts = and_parts (test u.0) (u.0.number == k.0) u.2 in
        let some = any_from (λ u. test u && list_any (λ k. k == u.number) tasks) list u.0 u.1
        (and_from (test u.0) (list_any (λ k. k == u.0.number) tasks) parts.0 (any_from (λ x. x == u.0.number) tasks k.0 k.1 (eq-eqb k.0 u.0.number (sym (eqb-true u.0.number k.0 parts.1))))) in
        cc)
  ]
]

-- who of the list has a number, and passes
pub none_passes_numbered : (test : Participant → Bool) (list : List Participant) (k : ℕ) → ((u : Participant) → Contains list u → u.number ≡ k → ⊥) → false ≡ list_any (λ u. test u && u.number == k) list
none_passes_numbered test list k none = elim (cases_Bool (list_any (λ u. test u && u.number == k) list)) [
  | inr off ↦ sym off
  | inl on ↦
      absurd (let u = any_is (λ u. test u && u.number == k) list on in
      none u.0 u.1 (eqb-true u.0.number k (and_parts (test u.0) (u.0.number == k) u.2).1))
]

pub one_passes_numbered : (test : Participant → Bool) (list : List Participant) (k : ℕ) (u : Participant) → Contains list u → u.number ≡ k →
    ((v : Participant) → Contains list v → v.number ≡ k → v ≡ u) → test u ≡ list_any (λ v. test v && v.number == k) list
one_passes_numbered test list k u within same one = elim (cases_Bool (test u)) [
  | inl on ↦ on ∙ sym (any_from (λ v. test v && v.number == k) list u within (and_from (test u) (u.number == k) on (eq-eqb u.number k same)))
  | inr off ↦ elim (cases_Bool (list_any (λ v. test v && v.number == k) list)) [
    | inr none ↦ off ∙ sym none
    | inl on ↦
        absurd (let v = any_is (λ v. test v && v.number == k) list on in
        let parts = and_parts (test v.0) (v.0.number == k) v.2 in
        let e = ap test (one v.0 v.1 (eqb-true v.0.number k parts.1)) in
        let f = parts.0 in
        cc)
  ]
]

-- of these numbers one is of somebody who passes, or none is
pub some_numbered : (test : Participant → Bool) (list : List Participant) (tasks : List ℕ) (i : ℕ) → i < length tasks → list_any (λ u. test u && u.number == get_or tasks i 0) list ≡ true →
    true ≡ list_any (λ u. test u && list_any (λ k. k == u.number) tasks) list
some_numbered test list tasks i within on =
    let k = get_or tasks i 0 in
    sym (any_from (λ j. list_any (λ u. test u && u.number == j) list) tasks k (i, within, get_or_default tasks i k 0 within) on) ∙ any_numbered test list tasks

pub none_numbered_of : (test : Participant → Bool) (list : List Participant) (tasks : List ℕ) (i : ℕ) → length tasks ≤ i → list_any (λ k. list_any (λ u. test u && u.number == k) list) (take i tasks) ≡ false →
    false ≡ list_any (λ u. test u && list_any (λ k. k == u.number) tasks) list
none_numbered_of test list tasks i past none =
    sym none ∙ ap (list_any (λ k. list_any (λ u. test u && u.number == k) list)) (take_all i tasks past) ∙ any_numbered test list tasks
