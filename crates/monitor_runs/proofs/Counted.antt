-- How many tasks and memberships a trace of a run has.
use Rattle.std.proofs.Common.{◌≡◌, ℕ, ◌≤◌, ◌+◌, ◌*◌, ◌||◌, Bool, true, false, not, Some, None, List, [], ◌∷◌, ◌++◌, length, refl, sym, ◌∙◌, ap, subst, ◌⊎◌, inl, inr, arith}
use Rattle.std.specs.Prelude.{Contains, bytes_eq, filter, fold, map}
use Rattle.std.specs.List.{list_any}
use Rattle.std.specs.Map.{lookup}
use Rattle.std.proofs.lemmas.Bool.{and_from, cases_Bool, cond-true, cond-false, or_left}
use Rattle.std.proofs.lemmas.List.{map-append, length-map}
use Rattle.std.proofs.lemmas.List.Elements.{Contains-append_cases}
use Rattle.std.proofs.lemmas.Slice.Eq.{bytes_eq-Decides}
use Rattle.std.proofs.Math.Nat.{mul-le-mul_right, suc-mul}
use Rattle.armus_base.specs.Counts.{IsDistinct}
use Rattle.armus_base.proofs.Counts.{IsDistinct-push, distinct_le}
use Rattle.armus_base.proofs.Elements.{Contains-cons_cases, Contains-head, Contains-tail, from_map, in_map, nothing_in_nil}
use Rattle.monitor_laws.specs.Lines.{Announcement, Joins, Arrives, Leaves, Waits, Goes, Ends, Stands, Announces}
use Rattle.monitor_laws.specs.States.{Condition, Running, Waiting, Ended, AnyTask, OneOf, Participant, TraceState, after_line, announced_by, is_live_task, is_live_wildcard, is_there_as, new_participant, stays_listed, with_named}
use Rattle.monitor_laws.specs.Faults.{memberships_in, participant_in, phase_on, tasks_had}
use Rattle.monitor_laws.proofs.Filters.{any_from, from_filter}
use Rattle.monitor_laws.proofs.Changes.{changed_there, from_change, from_named, other_is, there_is}
use Rattle.monitor_laws.specs.Lawful.{IsLawfulState}
use Rattle.monitor_laws.proofs.Lawful.{announced_name}
use Rattle.monitor_laws.proofs.Phases.{risen}
use Rattle.monitor_laws.proofs.Rows.{named_is}
use Rattle.monitor_runs.proofs.Named.{AllLive, IsNoEnd, listed_or_new}
use Rattle.monitor_runs.proofs.OwnPhases.{risen_name}

-- the names of those who are listed, and of the phasers of one
abbrev pub names_listed : TraceState → List (List ℕ)
names_listed s = map (λ (u : Participant). u.name) s.list

abbrev pub phasers_of : Participant → List (List ℕ)
phasers_of u = map (λ (m : List ℕ × ℕ). m.0) u.phases

-- no name twice, and all of these names; no phaser twice, and all of these
pub record IsCounted (is_name is_phaser : List ℕ → Type 0) (s : TraceState) : Type 0 where
  pub distinct : IsDistinct (names_listed s)
  pub names : (u : Participant) → Contains s.list u → is_name u.name
  pub distinct_phasers : (u : Participant) → Contains s.list u → IsDistinct (phasers_of u)
  pub phasers : (u : Participant) → Contains s.list u → (q : List ℕ) → Contains (phasers_of u) q → is_phaser q

distinct_filter : {A B : Type 0} (f : A → B) (p : A → Bool) (xs : List A) → IsDistinct (map f xs) → IsDistinct (map f (filter p xs))
distinct_filter f p [] d = tt
distinct_filter {A} {B} f p (x ∷ xs) d = by_test (distinct_filter f p xs d.1) (cases_Bool (p x))
  where
    by_test : IsDistinct (map f (filter p xs)) → ((p x ≡ true) ⊎ (p x ≡ false)) → IsDistinct (map f (filter p (x ∷ xs)))
    by_test rest (inl on) = subst (λ l. IsDistinct (map f l)) (sym (cond-true (p x) (x ∷ filter p xs) (filter p xs) on)) (
      λ within.
          let y = from_map f (filter p xs) (f x) within in
          d.0 (subst (Contains (map f xs)) y.2 (in_map f xs y.0 (from_filter p xs y.0 y.1).0)),
      rest,
    )
    by_test rest (inr off) = subst (λ l. IsDistinct (map f l)) (sym (cond-false (p x) (x ∷ filter p xs) (filter p xs) off)) rest

map_same : {A B : Type 0} (f : A → B) (c : A → A) → ((x : A) → f (c x) ≡ f x) → (xs : List A) → map f (map c xs) ≡ map f xs
map_same f c same [] = refl
map_same f c same (x ∷ xs) = ap (λ y. y ∷ map f (map c xs)) (same x) ∙ ap (λ l. f x ∷ l) (map_same f c same xs)

-- a phaser of which one is a member is found
found_in : (q : List ℕ) (l : List (List ℕ × ℕ)) → Contains (map (λ (m : List ℕ × ℕ). m.0) l) q → (k : ℕ) × (lookup (bytes_eq q) l ≡ Some k)
found_in q [] within = absurd (nothing_in_nil q within)
found_in q (m ∷ l) within = by_test (found_in q l) (cases_Bool (bytes_eq q m.0))
  where
    by_test : (Contains (map (λ (n : List ℕ × ℕ). n.0) l) q → (k : ℕ) × (lookup (bytes_eq q) l ≡ Some k)) → ((bytes_eq q m.0 ≡ true) ⊎ (bytes_eq q m.0 ≡ false)) → (k : ℕ) × (lookup (bytes_eq q) (m ∷ l) ≡ Some k)
    by_test rest (inl on) = (m.1, cond-true (bytes_eq q m.0) (Some m.1) (lookup (bytes_eq q) l) on)
    by_test rest (inr off) = elim (Contains-cons_cases m.0 (map (λ (n : List ℕ × ℕ). n.0) l) q within) [
      | inl here ↦ absurd (let d = (bytes_eq-Decides q m.0).1 (sym here) in cc)
      | inr there ↦ (let r = rest there in (r.0, cond-false (bytes_eq q m.0) (Some m.1) (lookup (bytes_eq q) l) off ∙ r.1))
    ]

-- who joins is no member, and the phaser is one of these
abbrev pub IsFineJoin : (List ℕ → Type 0) → Participant → Announcement → Type 0
IsFineJoin is_phaser u (Joins p n) = (phase_on u p ≡ None) × is_phaser p
IsFineJoin is_phaser u (Arrives p) = Unit {0}
IsFineJoin is_phaser u (Leaves p) = Unit {0}
IsFineJoin is_phaser u (Waits p n) = Unit {0}
IsFineJoin is_phaser u Goes = Unit {0}
IsFineJoin is_phaser u Ends = Unit {0}
IsFineJoin is_phaser u Stands = Unit {0}

module _ (is_phaser : List ℕ → Type 0) where
  abbrev AreFine : List (List ℕ) → Type 0
  AreFine ps = IsDistinct ps × ((q : List ℕ) → Contains ps q → is_phaser q)

  fine_more : (l : List (List ℕ × ℕ)) (p : List ℕ) (n : ℕ) → AreFine (map (λ (m : List ℕ × ℕ). m.0) l) → lookup (bytes_eq p) l ≡ None → is_phaser p → AreFine (map (λ (m : List ℕ × ℕ). m.0) (l ++ (p, n) ∷ []))
  fine_more l p n fine none is = subst AreFine (sym (map-append (λ (m : List ℕ × ℕ). m.0) l ((p, n) ∷ []))) (
    IsDistinct-push (map (λ (m : List ℕ × ℕ). m.0) l) p fine.0 (λ within. let f = found_in p l within in let e = f.1 in cc),
    λ q within. elim (Contains-append_cases (map (λ (m : List ℕ × ℕ). m.0) l) (p ∷ []) q within) [
      | inl old ↦ fine.1 q old
      | inr new ↦ elim (Contains-cons_cases p [] q new) [ inl here ↦ subst is_phaser here is | inr there ↦ absurd (nothing_in_nil q there) ]
    ],
  )

  fine_after : (what : Announcement) → (u : Participant) → IsNoEnd what → IsFineJoin is_phaser u what → AreFine (phasers_of u) → AreFine (phasers_of (announced_by what u))
  fine_after (Joins p n) u on join fine = fine_more u.phases p n fine join.0 join.1
  fine_after (Arrives p) u on join fine = subst AreFine (sym (map_same (λ (m : List ℕ × ℕ). m.0) (risen p) (risen_name p) u.phases)) fine
  fine_after (Leaves p) u on join fine = (
    distinct_filter (λ (m : List ℕ × ℕ). m.0) (λ m. not (bytes_eq p m.0)) u.phases fine.0,
    λ q within.
        let m = from_map (λ (x : List ℕ × ℕ). x.0) (filter (λ x. not (bytes_eq p x.0)) u.phases) q within in
        fine.1 q (subst (Contains (phasers_of u)) m.2 (in_map (λ (x : List ℕ × ℕ). x.0) u.phases m.0 (from_filter (λ x. not (bytes_eq p x.0)) u.phases m.0 m.1).0)),
  )
  fine_after (Waits p n) u on join fine = fine
  fine_after Goes u on join fine = fine
  fine_after Ends u on join fine = absurd on
  fine_after Stands u on join fine = fine

module _ (is_name is_phaser : List ℕ → Type 0) (s : TraceState) (lawful : IsLawfulState s) (live : AllLive s) (counted : IsCounted is_name is_phaser s) (t : List ℕ) (what : Announcement) (on : IsNoEnd what) (name_is : is_name t) (join : IsFineJoin is_phaser (participant_in s t) what) where
  abbrev next : TraceState
  next = after_line s (Announces t what None)

  name_stays : (u : Participant) → (changed_there t (announced_by what) u).name ≡ u.name
  name_stays u = elim (cases_Bool (is_there_as t u)) [
    | inl there ↦ ap (λ (x : Participant). x.name) (there_is t (announced_by what) u there) ∙ announced_name what u
    | inr other ↦ ap (λ (x : Participant). x.name) (other_is t (announced_by what) u other)
  ]

  named_distinct : IsDistinct (names_listed (with_named s t))
  named_distinct = elim (cases_Bool (list_any (is_there_as t) s.list)) [
    | inl there ↦ subst (λ (x : TraceState). IsDistinct (names_listed x)) (sym (cond-true (list_any (is_there_as t) s.list) s (record { list = s.list ++ new_participant s.named t ∷ []; named = s.named + 1 }) there)) counted.distinct
    | inr none ↦
        subst (λ (x : TraceState). IsDistinct (names_listed x)) (sym (cond-false (list_any (is_there_as t) s.list) s (record { list = s.list ++ new_participant s.named t ∷ []; named = s.named + 1 }) none))
        (subst IsDistinct (sym (map-append (λ (u : Participant). u.name) s.list (new_participant s.named t ∷ [])))
        (IsDistinct-push (names_listed s) t counted.distinct (λ within.
        let u = from_map (λ (x : Participant). x.name) s.list t within in
        let a = any_from (is_there_as t) s.list u.0 u.1 (and_from (is_live_task u.0.condition || is_live_wildcard u.0.condition) (bytes_eq t u.0.name) (or_left (is_live_task u.0.condition) (is_live_wildcard u.0.condition) (live u.0 u.1)) ((bytes_eq-Decides t u.0.name).1 (sym u.2))) in
        cc)))
  ]

  fine_named : (u : Participant) → Contains (with_named s t).list u → is_name u.name × AreFine is_phaser (phasers_of u) × (is_there_as t u ≡ true → participant_in s t ≡ u)
  fine_named u within = elim (from_named s t u within) [
    | inl old ↦ (counted.names u old, (counted.distinct_phasers u old, counted.phasers u old), λ there. named_is s lawful t u old there)
    | inr new ↦ (
      subst is_name (ap (λ (x : Participant). x.name) (sym new.1)) name_is,
      subst (λ x. AreFine is_phaser (phasers_of x)) (sym new.1) (tt, λ q i. absurd (nothing_in_nil q i)),
      λ there. new_is new.0 ∙ sym new.1,
    )
  ]
    where
      new_is : list_any (is_there_as t) s.list ≡ false → participant_in s t ≡ new_participant s.named t
      new_is none = elim (listed_or_new s lawful t) [
        | inl is ↦ absurd (let a = any_from (is_there_as t) s.list (participant_in s t) is.listed is.there in cc)
        | inr new ↦ new.1
      ]

  pub counted_after : IsCounted is_name is_phaser next
  counted_after = record {
    distinct =
        distinct_filter (λ (u : Participant). u.name) stays_listed (map (changed_there t (announced_by what)) (with_named s t).list)
        (subst IsDistinct (sym (map_same (λ (u : Participant). u.name) (changed_there t (announced_by what)) name_stays (with_named s t).list)) named_distinct);
    names = λ v within. let m = from_change (changed_there t (announced_by what)) (with_named s t) v within in
        subst is_name (sym (name_stays m.0) ∙ ap (λ (x : Participant). x.name) m.2) (fine_named m.0 m.1).0;
    distinct_phasers = λ v within. (fine v within).0;
    phasers = λ v within. (fine v within).1;
  }
    where
      fine : (v : Participant) → Contains next.list v → AreFine is_phaser (phasers_of v)
      fine v within =
          let m = from_change (changed_there t (announced_by what)) (with_named s t) v within in
          let f = fine_named m.0 m.1 in
          subst (λ x. AreFine is_phaser (phasers_of x)) m.2 (elim (cases_Bool (is_there_as t m.0)) [
            | inl there ↦ subst (λ x. AreFine is_phaser (phasers_of x)) (sym (there_is t (announced_by what) m.0 there)) (fine_after is_phaser what m.0 on (subst (λ x. IsFineJoin is_phaser x what) (f.2 there) join) f.1)
            | inr other ↦ subst (λ x. AreFine is_phaser (phasers_of x)) (sym (other_is t (announced_by what) m.0 other)) f.1
          ])

-- a sum of so many, each at most this
fold_most : {A : Type 0} (f : A → ℕ) (most : ℕ) (xs : List A) (k : ℕ) → ((x : A) → Contains xs x → f x ≤ most) → fold (λ a x. a + f x) k xs ≤ k + length xs * most
fold_most f most [] k each = omega arith
fold_most f most (x ∷ xs) k each =
    let rest = fold_most f most xs (k + f x) (λ y within. each y (Contains-tail x xs y within)) in
    let one = each x (Contains-head x xs) in
    let m = suc-mul (length xs) most in
    omega arith

none_had : (c : Condition) → is_live_task c ≡ true → length (tasks_had c) ≡ 0
none_had Running live = refl
none_had (Waiting p n) live = refl
none_had Ended live = refl
none_had AnyTask live = refl
none_had (OneOf names tasks) live = absurd (cc)

module _ (tasks phasers : List (List ℕ)) (s : TraceState) (live : AllLive s) (counted : IsCounted (Contains tasks) (Contains phasers) s) where
  pub listed_most : length s.list ≤ length tasks
  listed_most =
      let few = distinct_le (names_listed s) tasks counted.distinct (λ t within.
      let u = from_map (λ (x : Participant). x.name) s.list t within in subst (Contains tasks) u.2 (counted.names u.0 u.1)) in
      let same = length-map s.list (λ (x : Participant). x.name) in
      omega arith

  pub memberships_most : memberships_in s ≤ length tasks * length phasers
  memberships_most =
      let sum = fold_most (λ (u : Participant). length u.phases + length (tasks_had u.condition)) (length phasers) s.list 0 (λ u within.
      let few = distinct_le (phasers_of u) phasers (counted.distinct_phasers u within) (counted.phasers u within) in
      let same = length-map u.phases (λ (m : List ℕ × ℕ). m.0) in
      let none = none_had u.condition (live u within) in
      omega arith) in
      let more = mul-le-mul_right (length phasers) listed_most in
      omega arith
