-- A task that waits for somebody who stood in a closed set, or for itself, and that nobody needs, comes into one, and nobody else does.
use Rattle.std.proofs.Common.{◌≡◌, ◌==◌, ℕ, Bool, true, false, ◌||◌, not, List, map, refl, sym, ◌∙◌, ap, subst, inl, inr, ◌⊎◌}
use Rattle.std.specs.Prelude.{Contains, IfSome, Option, Some, None, filter}
use Rattle.std.specs.List.{list_any}
use Rattle.std.proofs.lemmas.Bool.{and_from, and_parts, cases_Bool, eq-eqb, eqb-true, not_from_false, or_cases, or_left, or_right}
use Rattle.monitor_laws.specs.States.{Condition, Running, Waiting, Ended, AnyTask, OneOf, Participant, TraceState, is_live_task}
use Rattle.monitor_laws.specs.Lawful.{IsLawfulState}
use Rattle.monitor_laws.specs.Stuck.{IsClosedSet, IsKeptIn, IsStuck, has_phase_below}
use Rattle.monitor_laws.proofs.Deadlocked.{kept_in_larger}
use Rattle.monitor_laws.proofs.Filters.{any_from, any_is, from_filter, in_filter}
use Rattle.monitor_search.specs.Known.{AreStuckTasks, has_stuck_number, known_task}
use Rattle.monitor_search.specs.inside.Joining.{JoinsAloneBy, known_with}
use Rattle.monitor_search.specs.inside.Leaving.{runs_now}
use Rattle.monitor_search.specs.inside.Waits.{is_inside_below, is_unstuck, is_unstuck_of, may_stand_inside, needs_in, needs_other, was_outside}
use Rattle.monitor_search.proofs.Filtered.{any_of_map, filter_agrees}
use Rattle.monitor_search.proofs.Parted.{is_number}
use Rattle.monitor_search.proofs.Unneeded.{IsBeside, from_not_not, from_not_true, greatest, in_without_own, is_greatest, known_was_inside, needs_not, set_closed, without_own}

module _ (s after : TraceState) (u : Participant) (beside : IsBeside s after u) (known : List (ℕ × List ℕ)) (is : AreStuckTasks s known) (lawful : IsLawfulState s)
    (out : (set : ℕ → Bool) → IsClosedSet s set → (x : Participant) → Contains s.list x → x.number ≡ u.number → set x.number ≡ true → ⊥)
    (p : List ℕ) (n : ℕ) (waits : u.condition ≡ Waiting p n) (new : has_stuck_number known u.number ≡ false)
    (inside : list_any (is_inside_below after.list known u.number p n) after.list ≡ true)
    (unneeded : list_any (needs_other after.list known u) after.list ≡ false) where
  -- who stood in a closed set
  abbrev was : ℕ → Bool
  was = greatest s after u beside known is

  -- these, and u
  abbrev joined : ℕ → Bool
  joined j = was j || (j == u.number)

  apart_from : (j : ℕ) → (j == u.number) ≡ false → j ≡ u.number → ⊥
  apart_from j apart same = let e = eq-eqb j u.number same in absurd (cc)

  own_joined : (j : ℕ) → (j == u.number) ≡ true → joined j ≡ true
  own_joined j own = or_right (was j) (j == u.number) own

  was_joined : (j : ℕ) → was j ≡ true → joined j ≡ true
  was_joined j on = or_left (was j) (j == u.number) on

  joined_unless : (j : ℕ) → ((j ≡ u.number → ⊥) → was j ≡ true) → joined j ≡ true
  joined_unless j other = elim (cases_Bool (j == u.number)) [ inl own ↦ own_joined j own | inr apart ↦ was_joined j (other (apart_from j apart)) ]

  -- whoever is kept by those who stood in a closed set stood in one
  with_one_closed : (v : Participant) → Contains s.list v → IsKeptIn s was v.condition → IsClosedSet s (λ j. was j || (j == v.number))
  with_one_closed v listed kept t within on =
      kept_in_larger s was (λ j. was j || (j == v.number)) (λ x in_x i. or_left (was x.number) (x.number == v.number) i) t.condition
      (elim (or_cases (was t.number) (t.number == v.number) on) [
        | inl before ↦ (is_greatest s after u beside known is).closed t within before
        | inr own ↦ subst (λ (x : Participant). IsKeptIn s was x.condition) (lawful.one_number v t listed within (sym (eqb-true t.number v.number own))) kept
      ])

  in_was : (v : Participant) → Contains s.list v → IsKeptIn s was v.condition → was v.number ≡ true
  in_was v listed kept =
      (is_greatest s after u beside known is).greatest (λ j. was j || (j == v.number)) (with_one_closed v listed kept) v listed
      (or_right (was v.number) (v.number == v.number) (eq-eqb v.number v.number refl))

  -- who may have stood in a closed set, and is not u, stood in one
  inside_was : (v : Participant) → Contains after.list v → (v.number ≡ u.number → ⊥) → may_stand_inside after.list known u.number v ≡ true → was v.number ≡ true
  inside_was v within other may = by_condition v.condition refl (from_not_true (was_outside after.list known u.number v.number v.condition) may)
    where
      in_s : Contains s.list v
      in_s = beside.back v within other

      by_condition : (c : Condition) → v.condition ≡ c → was_outside after.list known u.number v.number c ≡ false → was v.number ≡ true
      by_condition Running same off = absurd (cc)
      by_condition (Waiting q m) same off =
          elim (or_cases (has_stuck_number known v.number) (v.number == u.number) (from_not_not (has_stuck_number known v.number || v.number == u.number) off)) [
            | inl stuck ↦ known_was_inside s after u beside known is v.number stuck
            | inr own ↦ absurd (other (eqb-true v.number u.number own))
          ]
      by_condition Ended same off = in_was v in_s (subst (IsKeptIn s was) (sym same) tt)
      by_condition AnyTask same off =
          absurd (let none : needs_in after.list known u v.number AnyTask ≡ false =
          subst (λ c. needs_in after.list known u v.number c ≡ false) same (needs_not s after u beside known is unneeded (λ j. false) (λ t listed on. absurd (cc)) v within other) in
          let e = from_not_not (list_any (λ x. runs_now x.condition) after.list) none in
          cc)
      by_condition (OneOf names tasks) same off = in_was v in_s (subst (IsKeptIn s was) (sym same) each)
        where
          is_unstuck_one : (w : Participant) → is_live_task w.condition ≡ true → has_stuck_number known w.number ≡ false → Contains tasks w.number → is_unstuck_of known tasks w ≡ true
          is_unstuck_one w live none has =
              and_from (is_unstuck known w) (list_any (λ k. k == w.number) tasks)
              (and_from (is_live_task w.condition) (not (has_stuck_number known w.number)) live (not_from_false (has_stuck_number known w.number) none)) (is_number tasks w has)

          none_is : (w : Participant) → Contains after.list w → is_unstuck_of known tasks w ≡ true → ⊥
          none_is w in_w on = absurd (let some = any_from (is_unstuck_of known tasks) after.list w in_w on in cc)

          each : IsKeptIn s was (OneOf names tasks)
          each w in_w live has = elim (cases_Bool (w.number == u.number)) [
            | inl own ↦
                absurd (none_is u beside.within (is_unstuck_one u (ap is_live_task waits) new (subst (Contains tasks) (eqb-true w.number u.number own) has)))
            | inr apart ↦ elim (cases_Bool (has_stuck_number known w.number)) [
              | inl stuck ↦ known_was_inside s after u beside known is w.number stuck
              | inr none ↦ absurd (none_is w (beside.onward w in_w (apart_from w.number apart)) (is_unstuck_one w live none has))
            ]
          ]

  u_kept : IsKeptIn after joined (Waiting p n)
  u_kept =
      let v = any_is (is_inside_below after.list known u.number p n) after.list inside in
      let parts = and_parts (has_phase_below v.0 p n) (may_stand_inside after.list known u.number v.0) v.2 in
      (v.0, v.1, parts.0, joined_unless v.0.number (λ other. inside_was v.0 v.1 other parts.1))

  was_kept : (c : Condition) → IsKeptIn s was c → IsKeptIn after joined c
  was_kept Running kept = kept
  was_kept (Waiting q m) (y, in_y, below, on) =
      (y, beside.onward y in_y (λ same. out was (is_greatest s after u beside known is).closed y in_y same on), below, was_joined y.number on)
  was_kept Ended kept = tt
  was_kept AnyTask all = λ y in_y live. joined_unless y.number (λ other. all y (beside.back y in_y other) live)
  was_kept (OneOf names tasks) all = λ y in_y live has. joined_unless y.number (λ other. all y (beside.back y in_y other) live has)

  joined_closed : IsClosedSet after joined
  joined_closed x within on = elim (cases_Bool (x.number == u.number)) [
    | inl own ↦
        subst (λ (y : Participant). IsKeptIn after joined y.condition) (sym (beside.only x within (eqb-true x.number u.number own)))
        (subst (IsKeptIn after joined) (sym waits) u_kept)
    | inr apart ↦
        (let before : was x.number ≡ true = elim (or_cases (was x.number) (x.number == u.number) on) [ inl w ↦ w | inr own ↦ absurd (cc) ] in
        was_kept x.condition ((is_greatest s after u beside known is).closed x (beside.back x within (apart_from x.number apart)) before))
  ]

  stuck_now : (k : ℕ) → (has_stuck_number known k || (k == u.number)) ≡ true → (x : Participant) × IsStuck after x × (x.number ≡ k)
  stuck_now k on = elim (or_cases (has_stuck_number known k) (k == u.number) on) [
    | inl stuck ↦ of_known ((is.tells k).0 stuck) stuck
    | inr own ↦ (
      u,
      record { listed = beside.within; waits = (p, n, waits); set = joined; closed = joined_closed; inside = own_joined u.number (eq-eqb u.number u.number refl) },
      sym (eqb-true k u.number own),
    )
  ]
    where
      of_known : (x : Participant) × IsStuck s x × (x.number ≡ k) → has_stuck_number known k ≡ true → (x : Participant) × IsStuck after x × (x.number ≡ k)
      of_known (x, stuck, same) on_k = (
        x,
        record {
          listed = beside.onward x stuck.listed (λ own. let e = ap (has_stuck_number known) (sym same ∙ own) in absurd (cc));
          waits = stuck.waits;
          set = joined;
          closed = joined_closed;
          inside = was_joined x.number ((is_greatest s after u beside known is).greatest stuck.set stuck.closed x stuck.listed stuck.inside);
        },
        same,
      )

  were_or_own : (k : ℕ) → (x : Participant) × IsStuck after x × (x.number ≡ k) → (has_stuck_number known k || (k == u.number)) ≡ true
  were_or_own k (x, stuck, same) = elim (cases_Bool (x.number == u.number)) [
    | inl own ↦ or_right (has_stuck_number known k) (k == u.number) (eq-eqb k u.number (sym same ∙ eqb-true x.number u.number own))
    | inr apart ↦
        (let other = apart_from x.number apart in
        or_left (has_stuck_number known k) (k == u.number)
        ((is.tells k).1 (
          x,
          record {
            listed = beside.back x stuck.listed other;
            waits = stuck.waits;
            set = without_own s after u beside known is stuck.set;
            closed = set_closed s after u beside known is unneeded stuck.set stuck.closed;
            inside = in_without_own s after u beside known is stuck.set x.number stuck.inside other;
          },
          same,
        )))
  ]

  abbrev passes : Participant → Bool
  passes x = has_stuck_number known x.number || x.number == u.number

  told : (k : ℕ) → has_stuck_number (known_with after.list known u.number) k ≡ (has_stuck_number known k || (k == u.number))
  told k = any_of_map known_task (λ t. t.0 == k) (filter passes after.list) ∙ by_test (cases_Bool (list_any (λ x. x.number == k) (filter passes after.list)))
    where
      by_test : ((list_any (λ x. x.number == k) (filter passes after.list) ≡ true) ⊎ (list_any (λ x. x.number == k) (filter passes after.list) ≡ false)) →
          list_any (λ x. x.number == k) (filter passes after.list) ≡ (has_stuck_number known k || (k == u.number))
      by_test (inl on) =
          let x = any_is (λ y. y.number == k) (filter passes after.list) on in
          on ∙ sym (subst (λ j. (has_stuck_number known j || (j == u.number)) ≡ true) (eqb-true x.0.number k x.2) (from_filter passes after.list x.0 x.1).1)
      by_test (inr off) = elim (cases_Bool (has_stuck_number known k || (k == u.number))) [
        | inr none ↦ off ∙ sym none
        | inl some ↦
            absurd (let x = stuck_now k some in
            let there = in_filter passes after.list x.0 x.1.listed (subst (λ j. (has_stuck_number known j || (j == u.number)) ≡ true) (sym x.2) some) in
            let found = any_from (λ y. y.number == k) (filter passes after.list) x.0 there (eq-eqb x.0.number k x.2) in
            cc)
      ]

  pub one_more : AreStuckTasks after (known_with after.list known u.number)
  one_more =
      record {
        tells = λ k. (λ on. stuck_now k (sym (told k) ∙ on), λ stuck. told k ∙ were_or_own k stuck);
        ordered = ap (map known_task) (filter_agrees passes (λ x. has_stuck_number (known_with after.list known u.number) x.number) after.list (λ x within. sym (told x.number)));
      }

-- what holds of those that were found
pub found_weaker : {P Q : List (ℕ × List ℕ) → Type 0} (found : Option (List (ℕ × List ℕ))) → ((known : List (ℕ × List ℕ)) → P known → Q known) → IfSome found P → IfSome found Q
found_weaker None weaker holds = tt
found_weaker (Some known) weaker holds = weaker known holds

-- with the one more they are not the same
pub joined_differs : (list : List Participant) (known more : List (ℕ × List ℕ)) (t : List ℕ) → JoinsAloneBy list known t more → more ≡ known → ⊥
joined_differs list known more t (u, within, there, joins, is) same =
    absurd (let test : Participant → Bool = λ x. has_stuck_number known x.number || x.number == u.number in
    let listed = in_filter test list u within (or_right (has_stuck_number known u.number) (u.number == u.number) (eq-eqb u.number u.number refl)) in
    let found = any_from (λ x. x.number == u.number) (filter test list) u listed (eq-eqb u.number u.number refl) in
    let on : has_stuck_number (known_with list known u.number) u.number ≡ true = any_of_map known_task (λ t. t.0 == u.number) (filter test list) ∙ found in
    let off = joins.new in
    let e = ap (λ l. has_stuck_number l u.number) (sym is ∙ same) in
    cc)
