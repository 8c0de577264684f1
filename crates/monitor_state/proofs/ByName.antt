-- Who is there with a name, by the number of the name: where it stands, and what a change makes of it.
use Rattle.std.proofs.Common.{◌≡◌, ℕ, zero, suc, ◌<◌, ◌≤◌, Bool, true, false, ◌||◌, not, Some, None, Option, Result, Ok, Err, IfOk, IfErr, IfSome, IfNone, List, [], ◌∷◌, ◌++◌, length, get_or, drop, set, map, refl, sym, ◌∙◌, ap, subst, inl, inr, ◌⊎◌, arith}
use Rattle.std.specs.Prelude.{◌==◌, bytes_eq, eqb, filter, find, if◌then◌else◌}
use Rattle.std.specs.List.{list_any, remove, starts_with}
use Rattle.std.specs.List.Sorted.{IsBinarySearchResult, IsNonDecreasingBy, IsSearchInRange}
use Rattle.std.specs.Option.{option_map, option_or}
use Rattle.std.specs.Result.{result_ok}
use Rattle.std.specs.Ordering.{nat_cmp, ordering_index}
use Rattle.std.proofs.lemmas.Bool.{cases_Bool, and_parts, cond-true, cond-false}
use Rattle.std.proofs.lemmas.Bool.Decides.{nat_tests}
use Rattle.std.proofs.lemmas.Cmp.{ranked}
use Rattle.std.proofs.lemmas.List.Elements.{Contains-get_or}
use Rattle.std.proofs.lemmas.List.Folds.{find-append}
use Rattle.std.proofs.lemmas.Slice.Eq.{bytes_eq-Decides}
use Rattle.monitor_laws.specs.States.{Ended, Participant, gone_by, is_live_task, is_live_wildcard, is_there_as, stays_listed}
use Rattle.monitor_laws.proofs.Lawful.{announced_name, announced_number, placed_name, placed_number}
use Rattle.trace_lines.specs.Values.{place_value, said_value}
use Rattle.monitor_state.specs.declared.change.Change.{Change}
use Rattle.monitor_state.specs.declared.change.Change.TheVariants.{Says, Plays}
use Rattle.monitor_laws.specs.States.{announced_by}
use Rattle.monitor_laws.specs.Lawful.{AreAscending}
use Rattle.monitor_state.specs.inside.Changes.{changed_value, put_at}
use Rattle.monitor_state.specs.inside.FirstPlaces.{IsFirstAt}
use Rattle.monitor_state.specs.inside.Numbers.{HasNumbersOf, HasEachNameOnce}
use Rattle.monitor_state.specs.inside.Players.{participant_number}
use Rattle.monitor_state.proofs.ListChanges.{none_behind}
use Rattle.monitor_state.proofs.OnePassing.{first_place, first_tail, found_first, found_none}

-- the change of one keeps its name and its number
pub changed_name : (change : Change) (u : Participant) → (changed_value change u).name ≡ u.name
changed_name (Says what place) u = placed_name (place_value place) (announced_by (said_value what.now) u) ∙ announced_name (said_value what.now) u
changed_name (Plays condition) u = refl

pub changed_number : (change : Change) (u : Participant) → (changed_value change u).number ≡ u.number
changed_number (Says what place) u = placed_number (place_value place) (announced_by (said_value what.now) u) ∙ announced_number (said_value what.now) u
changed_number (Plays condition) u = refl

-- numbers ascend from place to place
numbers_ascend : (us : List Participant) (i j : ℕ) (d : Participant) → AreAscending us → i < j → j < length us → (get_or us i d).number < (get_or us j d).number
numbers_ascend [] i j d up less within = absurd (omega arith)
numbers_ascend (u ∷ us) i zero d up less within = absurd (omega arith)
numbers_ascend (u ∷ us) zero (suc j) d up less within = up.0 (get_or us j d) (Contains-get_or us j d (omega arith))
numbers_ascend (u ∷ us) (suc i) (suc j) d up less within = numbers_ascend us i j d up.1 (omega arith) (omega arith)

-- who is there with a name has the number that a search looks for
module _ (us : List Participant) (order : HasEachNameOnce us) (number : List ℕ → Option ℕ) (has : HasNumbersOf us number) (t : List ℕ) where
  pub nobody_by_name : number t ≡ None → list_any (is_there_as t) us ≡ false
  nobody_by_name none = elim (cases_Bool (list_any (is_there_as t) us)) [
    | inr off ↦ off
    | inl some ↦ absurd (
        let place = first_place (is_there_as t) us some in
        let d : Participant = record { number = 0; name = t; phases = []; condition = Ended; place = None } in
        let found = found_first (is_there_as t) us place.0 d place.1 in
        let e : None ≡ Some (get_or us place.0 d).number = sym none ∙ has t ∙ ap (option_map participant_number) found in
        cc)
  ]

  module _ (n : ℕ) (is : number t ≡ Some n) where
    -- somebody of this number is there with the name
    somebody : (i : ℕ) × IsFirstAt (is_there_as t) us i × ((d : Participant) → (get_or us i d).number ≡ n)
    somebody = elim (cases_Bool (list_any (is_there_as t) us)) [
      | inl some ↦ (
          let place = first_place (is_there_as t) us some in
          (place.0, place.1, λ d. number_at place.0 d place.1))
      | inr none ↦ absurd (
          let e : Some n ≡ None = sym is ∙ has t ∙ ap (option_map participant_number) (found_none (is_there_as t) us none) in
          cc)
    ]
      where
        number_at : (i : ℕ) (d : Participant) → IsFirstAt (is_there_as t) us i → (get_or us i d).number ≡ n
        number_at i d first =
            let e : Some (get_or us i d).number ≡ Some n = sym (ap (option_map participant_number) (found_first (is_there_as t) us i d first)) ∙ sym (has t) ∙ is in
            cc

    rise : IsNonDecreasingBy (λ u. ordering_index (nat_cmp u.number n)) us
    rise i j d le within =
        let less : i < j → (get_or us i d).number < (get_or us j d).number = λ lt. numbers_ascend us i j d order.ascending lt within in
        let same : i ≡ j → (get_or us i d).number ≡ (get_or us j d).number = λ e. ap (λ k. (get_or us k d).number) e in
        grind (arith, nat_tests)

    pub searched :
        (r : Result ℕ ℕ) → IsSearchInRange r (length us) → IsBinarySearchResult (λ u. nat_cmp u.number n) us r →
        record { at : IfOk r (IsFirstAt (is_there_as t) us); none : IfErr r (λ i. ⊥) }
    searched (Ok at) within equal = record { at = same (somebody) (equal); none = tt }
      where
        same : ((i : ℕ) × IsFirstAt (is_there_as t) us i × ((d : Participant) → (get_or us i d).number ≡ n)) → IsBinarySearchResult (λ u. nat_cmp u.number n) us (Ok at) → IsFirstAt (is_there_as t) us at
        same (i, first, number) equal =
            subst (IsFirstAt (is_there_as t) us) (here) first
          where
            d : Participant
            d = record { number = 0; name = t; phases = []; condition = Ended; place = None }

            there : (get_or us at d).number ≡ n
            there = ranked _ n _ (sym (equal d))

            here : i ≡ at
            here =
                let a : i < at → (get_or us i d).number < (get_or us at d).number = λ lt. numbers_ascend us i at d order.ascending lt within in
                let b : at < i → (get_or us at d).number < (get_or us i d).number = λ lt. numbers_ascend us at i d order.ascending lt first.within in
                let e = number d in
                let f = there in
                grind (arith)
    searched (Err at) within parted = record { at = tt; none = nowhere somebody }
      where
        nowhere : ((i : ℕ) × IsFirstAt (is_there_as t) us i × ((d : Participant) → (get_or us i d).number ≡ n)) → ⊥
        nowhere (i, first, number) =
            let d : Participant = record { number = 0; name = t; phases = []; condition = Ended; place = None } in
            let e = number d in
            let a : i < at → (get_or us i d).number < n = λ lt. ranked _ n _ (sym ((parted rise).0 i d (omega arith) lt)) in
            let b : at ≤ i → n < (get_or us i d).number = λ le. ranked _ n _ (sym ((parted rise).1 i d le first.within)) in
            grind (arith)

-- who is there with the name at a place is the first who is
pub first_there : (us : List Participant) → HasEachNameOnce us → (t : List ℕ) (at : ℕ) → at < length us → ((d : Participant) → is_there_as t (get_or us at d) ≡ true) → IsFirstAt (is_there_as t) us at
first_there us order t at within here = record {
  within = within;
  before = λ k d less. elim (cases_Bool (is_there_as t (get_or us k d))) [
    | inr off ↦ off
    | inl on ↦ absurd (
        let same : get_or us k d ≡ get_or us at d = order.one_name t (get_or us k d) (get_or us at d) (Contains-get_or us k d (omega arith)) (Contains-get_or us at d within) on (here d) in
        let number : (get_or us k d).number ≡ (get_or us at d).number = ap (λ (y : Participant). y.number) same in
        let less : (get_or us k d).number < (get_or us at d).number = numbers_ascend us k at d order.ascending less within in
        omega arith)
  ];
  here = here;
}

-- a change of one for whom a test fails before and after is not seen by the test
module _ {A : Type 0} (p : A → Bool) where
  found_set_elsewhere : (xs : List A) (i : ℕ) (v : A) → p v ≡ false → ((d : A) → p (get_or xs i d) ≡ false) → find p (set xs i v) ≡ find p xs
  found_set_elsewhere [] i v off before = refl
  found_set_elsewhere (x ∷ xs) zero v off before = cond-false (p v) (Some v) (find p xs) off ∙ sym (cond-false (p x) (Some x) (find p xs) (before x))
  found_set_elsewhere (x ∷ xs) (suc i) v off before = ap (λ (o : Option A). if p x then Some x else o) (found_set_elsewhere xs i v off before)

  found_removed_elsewhere : (xs : List A) (i : ℕ) → ((d : A) → p (get_or xs i d) ≡ false) → find p (remove xs i) ≡ find p xs
  found_removed_elsewhere [] zero before = refl
  found_removed_elsewhere [] (suc i) before = refl
  found_removed_elsewhere (x ∷ xs) zero before = sym (cond-false (p x) (Some x) (find p xs) (before x))
  found_removed_elsewhere (x ∷ xs) (suc i) before = ap (λ (o : Option A). if p x then Some x else o) (found_removed_elsewhere xs i before)

  -- the first that passes is another one, or passes no more
  found_set : (xs : List A) (i : ℕ) (v : A) → IsFirstAt p xs i → p v ≡ true → find p (set xs i v) ≡ Some v
  found_set [] i v first on = let w = first.within in absurd (omega arith)
  found_set (x ∷ xs) zero v first on = cond-true (p v) (Some v) (find p xs) on
  found_set (x ∷ xs) (suc i) v first on = cond-false (p x) (Some x) (find p (set xs i v)) (first.before 0 x (omega arith)) ∙ found_set xs i v (first_tail p x xs i first) on

  lost_set : (xs : List A) (i : ℕ) (v : A) → IsFirstAt p xs i → list_any p (drop (suc i) xs) ≡ false → p v ≡ false → find p (set xs i v) ≡ None
  lost_set [] i v first none off = refl
  lost_set (x ∷ xs) zero v first none off = cond-false (p v) (Some v) (find p xs) off ∙ found_none p xs none
  lost_set (x ∷ xs) (suc i) v first none off = cond-false (p x) (Some x) (find p (set xs i v)) (first.before 0 x (omega arith)) ∙ lost_set xs i v (first_tail p x xs i first) none off

  lost_removed : (xs : List A) (i : ℕ) → IsFirstAt p xs i → list_any p (drop (suc i) xs) ≡ false → find p (remove xs i) ≡ None
  lost_removed [] i first none = let w = first.within in absurd (omega arith)
  lost_removed (x ∷ xs) zero first none = found_none p xs none
  lost_removed (x ∷ xs) (suc i) first none = cond-false (p x) (Some x) (find p (remove xs i)) (first.before 0 x (omega arith)) ∙ lost_removed xs i (first_tail p x xs i first) none

-- who is there has its name, and is not there as another
name_there : (t : List ℕ) (u : Participant) → is_there_as t u ≡ true → t ≡ u.name
name_there t u there = (bytes_eq-Decides t u.name).0 (and_parts (is_live_task u.condition || is_live_wildcard u.condition) (bytes_eq t u.name) there).1

not_there : (t x : List ℕ) (v : Participant) → t ≡ v.name → bytes_eq t x ≡ false → is_there_as x v ≡ false
not_there t x v name other = elim (cases_Bool (is_there_as x v)) [
  | inr off ↦ off
  | inl on ↦ absurd (
      let e : bytes_eq t x ≡ true = (bytes_eq-Decides t x).1 (name ∙ sym (name_there x v on)) in
      let f : true ≡ false = sym e ∙ other in
      cc)
]

stays_there : (t : List ℕ) (v : Participant) → is_there_as t v ≡ true → stays_listed v ≡ true
stays_there t v there =
    ap (λ b. b || not (length v.phases == 0)) (and_parts (is_live_task v.condition || is_live_wildcard v.condition) (bytes_eq t v.name) there).0

-- of who is there with the name t another is made in its place
module _ (us : List Participant) (order : HasEachNameOnce us) (t : List ℕ) (i : ℕ) (u v : Participant) (first : IsFirstAt (is_there_as t) us i) (read : u ≡ get_or us i u) (name : v.name ≡ u.name) where
  there_before : is_there_as t u ≡ true
  there_before = ap (is_there_as t) read ∙ first.here u

  is_named : t ≡ v.name
  is_named = name_there t u there_before ∙ sym name

  -- nobody else is touched
  others_found : (x : List ℕ) → bytes_eq t x ≡ false → find (is_there_as x) (put_at us i v) ≡ find (is_there_as x) us
  others_found x other =
      by_test (not_there t x v is_named other) (λ d. not_there t x (get_or us i d) (name_there t (get_or us i d) (first.here d)) other) (cases_Bool (stays_listed v))
    where
      by_test : is_there_as x v ≡ false → ((d : Participant) → is_there_as x (get_or us i d) ≡ false) → ((stays_listed v ≡ true) ⊎ (stays_listed v ≡ false)) → find (is_there_as x) (put_at us i v) ≡ find (is_there_as x) us
      by_test off before (inl stays) =
          ap (find (is_there_as x)) (cond-true (stays_listed v) (set us i v) (remove us i) stays) ∙ found_set_elsewhere (is_there_as x) us i v off before
      by_test off before (inr goes) =
          ap (find (is_there_as x)) (cond-false (stays_listed v) (set us i v) (remove us i) goes) ∙ found_removed_elsewhere (is_there_as x) us i before

  -- it keeps its number where it is there
  pub numbers_kept : v.number ≡ u.number → is_there_as t v ≡ true → (x : List ℕ) → option_map participant_number (find (is_there_as x) (put_at us i v)) ≡ option_map participant_number (find (is_there_as x) us)
  numbers_kept number there x = elim (cases_Bool (bytes_eq t x)) [
    | inr other ↦ ap (option_map participant_number) (others_found x other)
    | inl same ↦
        subst (λ y. option_map participant_number (find (is_there_as y) (put_at us i v)) ≡ option_map participant_number (find (is_there_as y) us)) ((bytes_eq-Decides t x).0 same)
        (ap (λ l. option_map participant_number (find (is_there_as t) l)) (cond-true (stays_listed v) (set us i v) (remove us i) (stays_there t v there))
        ∙ ap (option_map participant_number) (found_set (is_there_as t) us i v first there)
        ∙ ap (λ n. Some n) (number ∙ ap (λ (y : Participant). y.number) read)
        ∙ sym (ap (option_map participant_number) (found_first (is_there_as t) us i u first)))
  ]

  -- where it is not there, its name has none
  pub number_lost : is_there_as t v ≡ false → (x : List ℕ) → (if bytes_eq t x then None else option_map participant_number (find (is_there_as x) us)) ≡ option_map participant_number (find (is_there_as x) (put_at us i v))
  number_lost off x = elim (cases_Bool (bytes_eq t x)) [
    | inr other ↦ cond-false (bytes_eq t x) None (option_map participant_number (find (is_there_as x) us)) other ∙ sym (ap (option_map participant_number) (others_found x other))
    | inl same ↦
        cond-true (bytes_eq t x) None (option_map participant_number (find (is_there_as x) us)) same
        ∙ sym (ap (option_map participant_number) (subst (λ y. find (is_there_as y) (put_at us i v) ≡ None) ((bytes_eq-Decides t x).0 same) (none_left (cases_Bool (stays_listed v)))))
  ]
    where
      none_left : ((stays_listed v ≡ true) ⊎ (stays_listed v ≡ false)) → find (is_there_as t) (put_at us i v) ≡ None
      none_left (inl stays) =
          ap (find (is_there_as t)) (cond-true (stays_listed v) (set us i v) (remove us i) stays)
          ∙ lost_set (is_there_as t) us i v first (none_behind t us i order.ascending (order.one_name t) first) off
      none_left (inr goes) =
          ap (find (is_there_as t)) (cond-false (stays_listed v) (set us i v) (remove us i) goes)
          ∙ lost_removed (is_there_as t) us i first (none_behind t us i order.ascending (order.one_name t) first)

-- a new one stands behind
module _ (us : List Participant) (t : List ℕ) (v : Participant) (name : v.name ≡ t) where
  behind_others : (x : List ℕ) → is_there_as x v ≡ false → find (is_there_as x) (us ++ v ∷ []) ≡ find (is_there_as x) us
  behind_others x off = find-append (is_there_as x) us (v ∷ []) ∙ ap (option_or (find (is_there_as x) us)) (cond-false (is_there_as x v) (Some v) None off) ∙ itself (find (is_there_as x) us)
    where
      itself : (o : Option Participant) → option_or o None ≡ o
      itself None = refl
      itself (Some y) = refl

  pub number_pushed :
      list_any (is_there_as t) us ≡ false → is_there_as t v ≡ true → (x : List ℕ) →
      (if bytes_eq t x then Some v.number else option_map participant_number (find (is_there_as x) us)) ≡ option_map participant_number (find (is_there_as x) (us ++ v ∷ []))
  number_pushed none there x = elim (cases_Bool (bytes_eq t x)) [
    | inr other ↦ cond-false (bytes_eq t x) (Some v.number) (option_map participant_number (find (is_there_as x) us)) other
        ∙ sym (ap (option_map participant_number) (behind_others x (not_there t x v (sym name) other)))
    | inl same ↦ cond-true (bytes_eq t x) (Some v.number) (option_map participant_number (find (is_there_as x) us)) same
        ∙ sym (ap (option_map participant_number) (subst (λ y. find (is_there_as y) (us ++ v ∷ []) ≡ Some v) ((bytes_eq-Decides t x).0 same) last))
  ]
    where
      last : find (is_there_as t) (us ++ v ∷ []) ≡ Some v
      last = find-append (is_there_as t) us (v ∷ []) ∙ ap (λ o. option_or o (find (is_there_as t) (v ∷ []))) (found_none (is_there_as t) us none) ∙ cond-true (is_there_as t v) (Some v) None there

  pub nothing_pushed : is_there_as t v ≡ false → (x : List ℕ) → find (is_there_as x) us ≡ find (is_there_as x) (us ++ v ∷ [])
  nothing_pushed off x = elim (cases_Bool (bytes_eq t x)) [
    | inr other ↦ sym (behind_others x (not_there t x v (sym name) other))
    | inl same ↦ subst (λ y. find (is_there_as y) us ≡ find (is_there_as y) (us ++ v ∷ [])) ((bytes_eq-Decides t x).0 same) (sym (behind_others t off))
  ]

-- all whose names begin so are gone
gone_other : (beginning x : List ℕ) (u : Participant) → starts_with eqb x beginning ≡ false → is_there_as x u ≡ true → gone_by beginning u ≡ u
gone_other beginning x u other there =
    cond-false (starts_with eqb u.name beginning) (record u { condition = Ended }) u (ap (λ l. starts_with eqb l beginning) (sym (name_there x u there)) ∙ other)

gone_away : (beginning x : List ℕ) (u : Participant) → starts_with eqb x beginning ≡ true → is_there_as x (gone_by beginning u) ≡ false
gone_away beginning x u begins = by_test (cases_Bool (starts_with eqb u.name beginning))
  where
    by_test : ((starts_with eqb u.name beginning ≡ true) ⊎ (starts_with eqb u.name beginning ≡ false)) → is_there_as x (gone_by beginning u) ≡ false
    by_test (inl gone) = ap (is_there_as x) (cond-true (starts_with eqb u.name beginning) (record u { condition = Ended }) u gone)
    by_test (inr stays) =
        ap (is_there_as x) (cond-false (starts_with eqb u.name beginning) (record u { condition = Ended }) u stays)
        ∙ elim (cases_Bool (is_there_as x u)) [
          | inr off ↦ off
          | inl on ↦ absurd (
              let e : true ≡ false = sym begins ∙ ap (λ l. starts_with eqb l beginning) (name_there x u on) ∙ stays in
              cc)
        ]

gone_not_there : (beginning x : List ℕ) (u : Participant) → is_there_as x u ≡ false → is_there_as x (gone_by beginning u) ≡ false
gone_not_there beginning x u off = by_test (cases_Bool (starts_with eqb u.name beginning))
  where
    by_test : ((starts_with eqb u.name beginning ≡ true) ⊎ (starts_with eqb u.name beginning ≡ false)) → is_there_as x (gone_by beginning u) ≡ false
    by_test (inl gone) = ap (is_there_as x) (cond-true (starts_with eqb u.name beginning) (record u { condition = Ended }) u gone)
    by_test (inr stays) = ap (is_there_as x) (cond-false (starts_with eqb u.name beginning) (record u { condition = Ended }) u stays) ∙ off

-- of one more
module _ (x : List ℕ) (v : Participant) (vs : List Participant) where
  kept_off : is_there_as x v ≡ false → find (is_there_as x) (filter stays_listed (v ∷ vs)) ≡ find (is_there_as x) (filter stays_listed vs)
  kept_off off = by_test (cases_Bool (stays_listed v))
    where
      by_test : ((stays_listed v ≡ true) ⊎ (stays_listed v ≡ false)) → find (is_there_as x) (filter stays_listed (v ∷ vs)) ≡ find (is_there_as x) (filter stays_listed vs)
      by_test (inl stays) =
          ap (find (is_there_as x)) (cond-true (stays_listed v) (v ∷ filter stays_listed vs) (filter stays_listed vs) stays)
          ∙ cond-false (is_there_as x v) (Some v) (find (is_there_as x) (filter stays_listed vs)) off
      by_test (inr goes) = ap (find (is_there_as x)) (cond-false (stays_listed v) (v ∷ filter stays_listed vs) (filter stays_listed vs) goes)

  kept_on : is_there_as x v ≡ true → find (is_there_as x) (filter stays_listed (v ∷ vs)) ≡ Some v
  kept_on on =
      ap (find (is_there_as x)) (cond-true (stays_listed v) (v ∷ filter stays_listed vs) (filter stays_listed vs) (stays_there x v on))
      ∙ cond-true (is_there_as x v) (Some v) (find (is_there_as x) (filter stays_listed vs)) on

gone_found : (beginning x : List ℕ) (us : List Participant) → starts_with eqb x beginning ≡ true → find (is_there_as x) (filter stays_listed (map (gone_by beginning) us)) ≡ None
gone_found beginning x [] begins = refl
gone_found beginning x (u ∷ us) begins =
    kept_off x (gone_by beginning u) (map (gone_by beginning) us) (gone_away beginning x u begins) ∙ gone_found beginning x us begins

other_found : (beginning x : List ℕ) (us : List Participant) → starts_with eqb x beginning ≡ false → find (is_there_as x) (filter stays_listed (map (gone_by beginning) us)) ≡ find (is_there_as x) us
other_found beginning x [] other = refl
other_found beginning x (u ∷ us) other = by_test (other_found beginning x us other) (cases_Bool (is_there_as x u))
  where
    by_test :
        find (is_there_as x) (filter stays_listed (map (gone_by beginning) us)) ≡ find (is_there_as x) us → ((is_there_as x u ≡ true) ⊎ (is_there_as x u ≡ false)) →
        find (is_there_as x) (filter stays_listed (map (gone_by beginning) (u ∷ us))) ≡ find (is_there_as x) (u ∷ us)
    by_test rest (inl on) =
        let same = gone_other beginning x u other on in
        kept_on x (gone_by beginning u) (map (gone_by beginning) us) (ap (is_there_as x) same ∙ on) ∙ ap (λ (v : Participant). Some v) same
        ∙ sym (cond-true (is_there_as x u) (Some u) (find (is_there_as x) us) on)
    by_test rest (inr off) =
        kept_off x (gone_by beginning u) (map (gone_by beginning) us) (gone_not_there beginning x u off) ∙ rest
        ∙ sym (cond-false (is_there_as x u) (Some u) (find (is_there_as x) us) off)

pub numbers_gone :
    (beginning : List ℕ) (us : List Participant) (x : List ℕ) →
    (if starts_with eqb x beginning then None else option_map participant_number (find (is_there_as x) us))
    ≡ option_map participant_number (find (is_there_as x) (filter stays_listed (map (gone_by beginning) us)))
numbers_gone beginning us x = elim (cases_Bool (starts_with eqb x beginning)) [
  | inl begins ↦ cond-true (starts_with eqb x beginning) None (option_map participant_number (find (is_there_as x) us)) begins
      ∙ sym (ap (option_map participant_number) (gone_found beginning x us begins))
  | inr other ↦ cond-false (starts_with eqb x beginning) None (option_map participant_number (find (is_there_as x) us)) other
      ∙ sym (ap (option_map participant_number) (other_found beginning x us other))
]

-- what a search answers, as an option
pub ok_at : (P : ℕ → Type 0) (r : Result ℕ ℕ) → IfOk r P → IfSome (result_ok r) P
ok_at P (Ok at) holds = holds
ok_at P (Err at) holds = tt

pub never_none : (Q : Type 0) (r : Result ℕ ℕ) → IfErr r (λ i. ⊥) → IfNone (result_ok r) Q
never_none Q (Ok at) never = tt
never_none Q (Err at) never = absurd never
