-- Partings: all of the list inside, the next parting, and who is stuck where those inside keep each of them.
use Rattle.std.proofs.Common.{◌≡◌, ℕ, Bool, true, false, ◌&&◌, not, ◌==◌, List, [], ◌∷◌, ◌++◌, map, refl, sym, ◌∙◌, ap, subst, ◌⊎◌, inl, inr, ◌↔◌}
use Rattle.std.specs.Prelude.{Contains, filter}
use Rattle.std.specs.List.{list_any}
use Rattle.std.proofs.lemmas.Bool.{and_from, and_parts, cases_Bool, eq-eqb, eqb-true, not_from_false}
use Rattle.std.proofs.lemmas.List.Elements.{Contains-append_cases, Contains-append_left, Contains-append_right}
use Rattle.monitor_laws.specs.States.{Condition, Running, Waiting, Ended, AnyTask, OneOf, Participant, TraceState, is_live_task}
use Rattle.monitor_laws.specs.Faults.{waits_now}
use Rattle.monitor_laws.specs.Stuck.{IsClosedSet, IsKeptIn, IsStuck, has_phase_below}
use Rattle.monitor_laws.proofs.Filters.{any_from, any_is, from_filter, in_filter}
use Rattle.monitor_laws.proofs.Lawful.{IsLawfulState}
use Rattle.monitor_search.specs.Known.{AreStuckTasks, OneKnown, has_stuck_number, known_task}
use Rattle.monitor_search.specs.inside.Partings.{AreAllKept, IsParting, is_kept_by, plays_one_of}
use Rattle.monitor_search.proofs.Filtered.{any_of_map, filter_agrees, filter_twice}

-- no test passes outside a list
none_passes_in : (test : Participant → Bool) (us : List Participant) → ((u : Participant) → Contains us u → test u ≡ true → ⊥) → not (list_any test us) ≡ true
none_passes_in test us none = elim (cases_Bool (list_any test us)) [
  | inl some ↦ absurd (let u = any_is test us some in none u.0 u.1 u.2)
  | inr off ↦ ap not off
]

none_passes_from : (test : Participant → Bool) (us : List Participant) (u : Participant) → not (list_any test us) ≡ true → Contains us u → test u ≡ true → ⊥
none_passes_from test us u none within on = let some = any_from test us u within on in let e = ap not some in absurd (cc)

-- who has one of the numbers
pub has_number : (tasks : List ℕ) (u : Participant) → list_any (λ k. k == u.number) tasks ≡ true → Contains tasks u.number
has_number tasks u some =
    let k = any_is (λ x. x == u.number) tasks some in
    subst (Contains tasks) (eqb-true k.0 u.number k.2) k.1

pub is_number : (tasks : List ℕ) (u : Participant) → Contains tasks u.number → list_any (λ k. k == u.number) tasks ≡ true
is_number tasks u has = any_from (λ x. x == u.number) tasks u.number has (eq-eqb u.number u.number refl)

-- who waits
pub waits_for : (c : Condition) → waits_now c ≡ true → (p : List ℕ) × (n : ℕ) × (c ≡ Waiting p n)
waits_for Running on = absurd (cc)
waits_for (Waiting p n) on = (p, n, refl)
waits_for Ended on = absurd (cc)
waits_for AnyTask on = absurd (cc)
waits_for (OneOf names tasks) on = absurd (cc)

-- of lists that are the same
pub parting_of_same : (s : TraceState) (inside outside more_inside more_outside : List Participant) → IsParting s inside outside → more_inside ≡ inside → more_outside ≡ outside → IsParting s more_inside more_outside
parting_of_same s inside outside more_inside more_outside parting same_inside same_outside =
    subst (IsParting s more_inside) (sym same_outside) (subst (λ l. IsParting s l outside) (sym same_inside) parting)

module _ (s : TraceState) (inside outside : List Participant) (parting : IsParting s inside outside) where
  -- those inside keep it
  abbrev stays : Participant → Bool
  stays u = is_kept_by inside outside u.condition

  in_list : (u : Participant) → Contains inside u → Contains s.list u
  in_list u within = (from_filter parting.chosen.0 s.list u (subst (λ l. Contains l u) parting.chosen.1 within)).0

  -- who stands in a closed set is inside
  pub closed_inside : (set : ℕ → Bool) → IsClosedSet s set → (u : Participant) → Contains s.list u → set u.number ≡ true → Contains inside u
  closed_inside set closed u within on = elim (parting.covered u within) [
    | inl here ↦ here
    | inr there ↦ absurd (let off = parting.out set closed u there in cc)
  ]

  -- whom a closed set keeps those inside keep
  kept_inside : (set : ℕ → Bool) → IsClosedSet s set → (c : Condition) → IsKeptIn s set c → is_kept_by inside outside c ≡ true
  kept_inside set closed Running kept = absurd kept
  kept_inside set closed (Waiting p n) (v, within, below, on) = any_from (λ u. has_phase_below u p n) inside v (closed_inside set closed v within on) below
  kept_inside set closed Ended kept = refl
  kept_inside set closed AnyTask all =
      none_passes_in (λ u. is_live_task u.condition) outside (λ u within live. let on = all u (parting.listed u within) live in let off = parting.out set closed u within in absurd (cc))
  kept_inside set closed (OneOf names tasks) all =
      none_passes_in (plays_one_of tasks) outside
      (λ u within plays.
      let parts = and_parts (is_live_task u.condition) (list_any (λ k. k == u.number) tasks) plays in
      let on = all u (parting.listed u within) parts.0 (has_number tasks u parts.1) in
      let off = parting.out set closed u within in
      absurd (cc))

  pub next_parting : IsParting s (filter (λ u. is_kept_by inside outside u.condition) inside) (outside ++ filter (λ u. not (is_kept_by inside outside u.condition)) inside)
  next_parting =
      record {
        chosen = (λ u. parting.chosen.0 u && stays u, ap (filter stays) parting.chosen.1 ∙ filter_twice stays parting.chosen.0 s.list);
        listed = λ u within. elim (Contains-append_cases outside (filter (λ v. not (stays v)) inside) u within) [
          | inl before ↦ parting.listed u before
          | inr now ↦ in_list u (from_filter (λ v. not (stays v)) inside u now).0
        ];
        covered = λ u within. elim (parting.covered u within) [
          | inr before ↦ inr (Contains-append_left outside (filter (λ v. not (stays v)) inside) u before)
          | inl here ↦ elim (cases_Bool (stays u)) [
            | inl on ↦ inl (in_filter stays inside u here on)
            | inr off ↦ inr (Contains-append_right outside (filter (λ v. not (stays v)) inside) u (in_filter (λ v. not (stays v)) inside u here (not_from_false (stays u) off)))
          ]
        ];
        out = λ set closed u within. elim (Contains-append_cases outside (filter (λ v. not (stays v)) inside) u within) [
          | inl before ↦ parting.out set closed u before
          | inr now ↦ elim (cases_Bool (set u.number)) [
            | inr off ↦ off
            | inl on ↦
                absurd (let left = from_filter (λ v. not (stays v)) inside u now in
                let here = kept_inside set closed u.condition (closed u (in_list u left.0) on) in
                let e = ap not here in
                let f = left.1 in
                cc)
          ]
        ];
      }

  module _ (lawful : IsLawfulState s) (all_kept : AreAllKept inside outside) where
    -- the numbers of those inside
    abbrev numbers_inside : ℕ → Bool
    numbers_inside k = list_any (λ u. u.number == k) inside

    with_number : (us : List Participant) → ((u : Participant) → Contains us u → Contains s.list u) → (u : Participant) → Contains s.list u → list_any (λ v. v.number == u.number) us ≡ true → Contains us u
    with_number us listed u within on =
        let v = any_is (λ w. w.number == u.number) us on in
        subst (Contains us) (lawful.one_number v.0 u (listed v.0 v.1) within (eqb-true v.0.number u.number v.2)) v.1

    number_of : (us : List Participant) (u : Participant) → Contains us u → list_any (λ v. v.number == u.number) us ≡ true
    number_of us u within = any_from (λ v. v.number == u.number) us u within (eq-eqb u.number u.number refl)

    kept_in_inside : (c : Condition) → is_kept_by inside outside c ≡ true → IsKeptIn s numbers_inside c
    kept_in_inside Running on = absurd (cc)
    kept_in_inside (Waiting p n) on =
        let v = any_is (λ u. has_phase_below u p n) inside on in
        (v.0, in_list v.0 v.1, v.2, number_of inside v.0 v.1)
    kept_in_inside Ended on = tt
    kept_in_inside AnyTask on = λ u within live. elim (parting.covered u within) [
      | inl here ↦ number_of inside u here
      | inr there ↦ absurd (none_passes_from (λ v. is_live_task v.condition) outside u on there live)
    ]
    kept_in_inside (OneOf names tasks) on = λ u within live has. elim (parting.covered u within) [
      | inl here ↦ number_of inside u here
      | inr there ↦
          absurd (none_passes_from (plays_one_of tasks) outside u on there (and_from (is_live_task u.condition) (list_any (λ k. k == u.number) tasks) live (is_number tasks u has)))
    ]

    closed_numbers : IsClosedSet s numbers_inside
    closed_numbers t within on = kept_in_inside t.condition (all_kept t (with_number inside in_list t within on))

    -- the waiting tasks inside
    abbrev waiting : List Participant
    waiting = filter (λ u. waits_now u.condition) inside

    waiting_listed : (u : Participant) → Contains waiting u → Contains s.list u
    waiting_listed u within = in_list u (from_filter (λ v. waits_now v.condition) inside u within).0

    has_number_of : (k : ℕ) → has_stuck_number (map known_task waiting) k ≡ list_any (λ u. u.number == k) waiting
    has_number_of k = any_of_map known_task (λ t. t.0 == k) waiting

    told_stuck : (u : Participant) → Contains waiting u → IsStuck s u
    told_stuck u within =
        let f = from_filter (λ v. waits_now v.condition) inside u within in
        record { listed = in_list u f.0; waits = waits_for u.condition f.1; set = numbers_inside; closed = closed_numbers; inside = number_of inside u f.0 }

    stuck_told : (u : Participant) → IsStuck s u → Contains waiting u
    stuck_told u stuck =
        in_filter (λ v. waits_now v.condition) inside u (closed_inside stuck.set stuck.closed u stuck.listed stuck.inside) (ap waits_now stuck.waits.2)

    tells_each : (k : ℕ) → (has_stuck_number (map known_task waiting) k ≡ true) ↔ ((t : Participant) × IsStuck s t × (t.number ≡ k))
    tells_each k = (
      λ on.
          let u = any_is (λ v. v.number == k) waiting (sym (has_number_of k) ∙ on) in
          (u.0, told_stuck u.0 u.1, eqb-true u.0.number k u.2),
      λ told. has_number_of k ∙ any_from (λ v. v.number == k) waiting told.0 (stuck_told told.0 told.1) (eq-eqb told.0.number k told.2),
    )

    -- of the list those pass that are told
    passes_told : (u : Participant) → Contains s.list u → (parting.chosen.0 u && waits_now u.condition) ≡ has_stuck_number (map known_task waiting) u.number
    passes_told u within = by_test (cases_Bool (parting.chosen.0 u && waits_now u.condition))
      where
        waiting_is : waiting ≡ filter (λ v. parting.chosen.0 v && waits_now v.condition) s.list
        waiting_is = ap (filter (λ v. waits_now v.condition)) parting.chosen.1 ∙ filter_twice (λ v. waits_now v.condition) parting.chosen.0 s.list

        by_test : (((parting.chosen.0 u && waits_now u.condition) ≡ true) ⊎ ((parting.chosen.0 u && waits_now u.condition) ≡ false)) → (parting.chosen.0 u && waits_now u.condition) ≡ has_stuck_number (map known_task waiting) u.number
        by_test (inl on) =
            on ∙ sym (has_number_of u.number ∙ number_of waiting u (subst (λ l. Contains l u) (sym waiting_is) (in_filter (λ v. parting.chosen.0 v && waits_now v.condition) s.list u within on)))
        by_test (inr off) =
            elim (cases_Bool (has_stuck_number (map known_task waiting) u.number)) [
              | inr none ↦ off ∙ sym none
              | inl some ↦
                  absurd (let here = with_number waiting waiting_listed u within (sym (has_number_of u.number) ∙ some) in
                  let on = (from_filter (λ v. parting.chosen.0 v && waits_now v.condition) s.list u (subst (λ l. Contains l u) waiting_is here)).1 in
                  cc)
            ]

    pub stuck_of_parting : AreStuckTasks s (map known_task (filter (λ u. waits_now u.condition) inside))
    stuck_of_parting =
        record {
          tells = tells_each;
          ordered =
              ap (map known_task)
              (ap (filter (λ v. waits_now v.condition)) parting.chosen.1 ∙ filter_twice (λ v. waits_now v.condition) parting.chosen.0 s.list
              ∙ filter_agrees (λ v. parting.chosen.0 v && waits_now v.condition) (λ u. has_stuck_number (map known_task waiting) u.number) s.list passes_told);
        }

-- of nobody who is known there is nobody
pub none_known : (us : List Participant) → filter (λ u. has_stuck_number [] u.number) us ≡ []
none_known [] = refl
none_known (u ∷ us) = none_known us

-- where nobody waits nobody is stuck
pub none_stuck : (s : TraceState) → list_any (λ u. waits_now u.condition) s.list ≡ false → AreStuckTasks s []
none_stuck s none =
    record {
      tells = λ k. (
        λ on. absurd (cc),
        λ told. absurd (let w = ap waits_now told.1.waits.2 in let some = any_from (λ u. waits_now u.condition) s.list told.0 told.1.listed w in cc),
      );
      ordered = ap (map known_task) (sym (none_known s.list));
    }

-- the stuck tasks of a state are known in one way
pub one_known : OneKnown
one_known s known more is too =
    is.ordered
    ∙ ap (map known_task) (filter_agrees (λ u. has_stuck_number known u.number) (λ u. has_stuck_number more u.number) s.list (λ u within. same u.number (is.tells u.number) (too.tells u.number)))
    ∙ sym too.ordered
  where
    same : {P : Type 0} (k : ℕ) → ((has_stuck_number known k ≡ true) ↔ P) → ((has_stuck_number more k ≡ true) ↔ P) → has_stuck_number known k ≡ has_stuck_number more k
    same k one other = elim (cases_Bool (has_stuck_number known k)) [
      | inl on ↦ on ∙ sym (other.1 (one.0 on))
      | inr off ↦ elim (cases_Bool (has_stuck_number more k)) [ inl on ↦ absurd (let e = one.1 (other.0 on) in cc) | inr none ↦ off ∙ sym none ]
    ]
