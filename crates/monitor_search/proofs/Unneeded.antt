-- A task that waits for those who stood in no closed set, and that nobody needs, stands in none.
use Rattle.std.proofs.Common.{◌≡◌, ◌==◌, ℕ, Bool, true, false, ◌&&◌, ◌||◌, not, List, refl, sym, ◌∙◌, ap, subst, inl, inr}
use Rattle.std.specs.Prelude.{Contains}
use Rattle.std.specs.List.{list_any}
use Rattle.std.proofs.lemmas.Bool.{and_from, and_parts, cases_Bool, eq-eqb, eqb-true, not_from_false, or_cases, or_left, or_right}
use Rattle.monitor_laws.specs.States.{Condition, Running, Waiting, Ended, AnyTask, OneOf, Participant, TraceState, is_live_task}
use Rattle.monitor_laws.specs.Stuck.{IsClosedSet, IsKeptIn, IsStuck, has_phase_below}
use Rattle.monitor_laws.specs.Told.{IsGreatestClosedSet}
use Rattle.monitor_laws.proofs.Deadlocked.{kept_in_larger}
use Rattle.monitor_laws.proofs.Filters.{any_from, any_is, none_passes}
use Rattle.monitor_laws.proofs.Known.{stuck_is_known}
use Rattle.monitor_search.specs.Known.{AreStuckTasks, has_stuck_number}
use Rattle.monitor_search.specs.inside.Leaving.{is_freed, runs_as_one_of, runs_now}
use Rattle.monitor_search.specs.inside.Waits.{is_inside_below, is_unstuck, is_unstuck_of, needs_in, needs_other, waits_unneeded, was_outside}
use Rattle.monitor_search.proofs.Parted.{has_number}
use Rattle.monitor_search.proofs.SurelyOut.{freed_out}

-- what is not false is true
pub from_not_not : (b : Bool) → not b ≡ false → b ≡ true
from_not_not true e = refl
from_not_not false e = absurd (cc)

pub from_not_true : (b : Bool) → not b ≡ true → b ≡ false
from_not_true true e = absurd (cc)
from_not_true false e = refl

-- both are not so, where not one of them is
pub neither : (a b : Bool) → (a || b) ≡ false → (a ≡ false) × (b ≡ false)
neither true b e = absurd (cc)
neither false b e = (refl, e)

-- one is not so, where both are not and the other is
pub not_other : (a b : Bool) → (a && b) ≡ false → a ≡ true → b ≡ false
not_other true b e on = e
not_other false b e on = absurd (cc)

-- two lists that differ only in who has the number k; u has it in the second
pub record IsBeside (s after : TraceState) (u : Participant) : Type 0 where
  pub within : Contains after.list u
  pub only : (x : Participant) → Contains after.list x → x.number ≡ u.number → x ≡ u
  pub back : (v : Participant) → Contains after.list v → (v.number ≡ u.number → ⊥) → Contains s.list v
  pub onward : (v : Participant) → Contains s.list v → (v.number ≡ u.number → ⊥) → Contains after.list v

module _ (s after : TraceState) (u : Participant) (beside : IsBeside s after u) (known : List (ℕ × List ℕ)) (is : AreStuckTasks s known) where
  -- who stood in a closed set
  abbrev pub greatest : ℕ → Bool
  greatest = (stuck_is_known s).0

  abbrev pub is_greatest : IsGreatestClosedSet s greatest
  is_greatest = (stuck_is_known s).1

  pub known_was_inside : (j : ℕ) → has_stuck_number known j ≡ true → greatest j ≡ true
  known_was_inside j on =
      let (x, stuck, same) = (is.tells j).0 on in
      ap greatest (sym same) ∙ is_greatest.greatest stuck.set stuck.closed x stuck.listed stuck.inside

  pub stuck_was_known : (x : Participant) → IsStuck s x → has_stuck_number known x.number ≡ true
  stuck_was_known x stuck = (is.tells x.number).1 (x, stuck, refl)

  -- some of a set, without who has the number, and whoever stood in a closed set
  abbrev pub without_own : (ℕ → Bool) → ℕ → Bool
  without_own set j = (set j && not (j == u.number)) || greatest j

  pub in_without_own : (set : ℕ → Bool) (j : ℕ) → set j ≡ true → (j ≡ u.number → ⊥) → without_own set j ≡ true
  in_without_own set j on other =
      or_left (set j && not (j == u.number)) (greatest j)
      (and_from (set j) (not (j == u.number)) on (not_from_false (j == u.number) (elim (cases_Bool (j == u.number)) [ inl same ↦ absurd (other (eqb-true j u.number same)) | inr apart ↦ apart ])))

  pub greatest_in_without_own : (set : ℕ → Bool) (j : ℕ) → greatest j ≡ true → without_own set j ≡ true
  greatest_in_without_own set j on = or_right (set j && not (j == u.number)) (greatest j) on

  -- it is closed, where each of the set but u is kept by such
  pub without_own_closed : (set : ℕ → Bool) →
      ((x : Participant) → Contains s.list x → (x.number ≡ u.number → ⊥) → set x.number ≡ true → has_stuck_number known x.number ≡ false → IsKeptIn s (without_own set) x.condition) →
      IsClosedSet s (without_own set)
  without_own_closed set each x listed on = elim (or_cases (set x.number && not (x.number == u.number)) (greatest x.number) on) [
    | inr was ↦ of_greatest was
    | inl in_set ↦
        (let parts = and_parts (set x.number) (not (x.number == u.number)) in_set in
        elim (cases_Bool (has_stuck_number known x.number)) [
          | inl stuck ↦ of_greatest (known_was_inside x.number stuck)
          | inr new ↦ each x listed (λ same. let e = ap not (eq-eqb x.number u.number same) in let o = parts.1 in absurd (cc)) parts.0 new
        ])
  ]
    where
      of_greatest : greatest x.number ≡ true → IsKeptIn s (without_own set) x.condition
      of_greatest was =
          kept_in_larger s greatest (without_own set) (λ v in_v inside. greatest_in_without_own set v.number inside) x.condition (is_greatest.closed x listed was)

  -- a task of a closed set that has not ended and is not u was stuck
  pub live_was_stuck : (set : ℕ → Bool) → IsClosedSet s (without_own set) → (v : Participant) → Contains after.list v → is_live_task v.condition ≡ true → (v.number ≡ u.number → ⊥) →
      set v.number ≡ true → has_stuck_number known v.number ≡ true
  live_was_stuck set closed v listed live other on = by_condition v.condition refl live
    where
      in_s : Contains s.list v
      in_s = beside.back v listed other

      inside : without_own set v.number ≡ true
      inside = in_without_own set v.number on other

      by_condition : (c : Condition) → v.condition ≡ c → is_live_task c ≡ true → has_stuck_number known v.number ≡ true
      by_condition Running same alive = absurd (subst (IsKeptIn s (without_own set)) same (closed v in_s inside))
      by_condition (Waiting p n) same alive = stuck_was_known v (record { listed = in_s; waits = (p, n, same); set = without_own set; closed = closed; inside = inside })
      by_condition Ended same alive = absurd (cc)
      by_condition AnyTask same alive = absurd (cc)
      by_condition (OneOf names tasks) same alive = absurd (cc)

  -- nobody else needs u
  module _ (unneeded : list_any (needs_other after.list known u) after.list ≡ false) (set : ℕ → Bool) (closed : IsClosedSet after set) where
    pub needs_not : (x : Participant) → Contains after.list x → (x.number ≡ u.number → ⊥) → needs_in after.list known u x.number x.condition ≡ false
    needs_not x listed other =
        not_other (not (x.number == u.number)) (needs_in after.list known u x.number x.condition) (none_passes (needs_other after.list known u) after.list x listed unneeded)
        (not_from_false (x.number == u.number) (elim (cases_Bool (x.number == u.number)) [ inl same ↦ absurd (other (eqb-true x.number u.number same)) | inr apart ↦ apart ]))

    freed_not_in : (x : Participant) → Contains after.list x → set x.number ≡ true → (c : Condition) → x.condition ≡ c → is_freed after.list c ≡ true → ⊥
    freed_not_in x listed inside c same freed = freed_out after after.list (λ v in_v runs. in_v) set closed c freed (subst (IsKeptIn after set) same (closed x listed inside))

    each_kept : (x : Participant) → Contains s.list x → (x.number ≡ u.number → ⊥) → set x.number ≡ true → has_stuck_number known x.number ≡ false → IsKeptIn s (without_own set) x.condition
    each_kept x listed other inside new = by_condition x.condition refl (closed x in_after inside) (needs_not x in_after other)
      where
        in_after : Contains after.list x
        in_after = beside.onward x listed other

        by_condition : (c : Condition) → x.condition ≡ c → IsKeptIn after set c → needs_in after.list known u x.number c ≡ false → IsKeptIn s (without_own set) c
        by_condition Running same kept none = kept
        by_condition (Waiting q m) same (y, in_y, below, on) none = elim (cases_Bool (y.number == u.number)) [
          | inl own ↦
              absurd (let is_u = beside.only y in_y (eqb-true y.number u.number own) in
              let below_u : has_phase_below u q m ≡ true = ap (λ v. has_phase_below v q m) (sym is_u) ∙ below in
              let stuck = not_other (has_phase_below u q m) (not (has_stuck_number known x.number)) none below_u in
              let e = from_not_not (has_stuck_number known x.number) stuck in
              cc)
          | inr apart ↦
              (let differs : y.number ≡ u.number → ⊥ = λ e. let f = eq-eqb y.number u.number e in absurd (cc) in
              (y, beside.back y in_y differs, below, in_without_own set y.number on differs))
        ]
        by_condition Ended same kept none = tt
        by_condition AnyTask same all none =
            absurd (freed_not_in x in_after inside AnyTask same (from_not_not (list_any (λ v. runs_now v.condition) after.list) none))
        by_condition (OneOf names tasks) same all none = elim (cases_Bool (list_any (λ j. j == u.number) tasks)) [
          | inl has ↦
              absurd (freed_not_in x in_after inside (OneOf names tasks) same
              (from_not_not (list_any (runs_as_one_of tasks) after.list) (not_other (list_any (λ j. j == u.number) tasks) (not (list_any (runs_as_one_of tasks) after.list)) none has)))
          | inr has_not ↦ λ y in_y live in_tasks.
              (let differs : y.number ≡ u.number → ⊥ = λ e. let f = any_from (λ j. j == u.number) tasks y.number in_tasks (eq-eqb y.number u.number e) in absurd (cc) in
              in_without_own set y.number (all y (beside.onward y in_y differs) live in_tasks) differs)
        ]

    pub set_closed : IsClosedSet s (without_own set)
    set_closed = without_own_closed set each_kept

    -- who was outside is in no closed set that has all its players but u
    was_outside_out : (y : Participant) → Contains after.list y → (is_live_task u.condition ≡ true) → was_outside after.list known u.number y.number y.condition ≡ true → set y.number ≡ true → ⊥
    was_outside_out y listed live on inside = by_condition y.condition refl on
      where
        by_condition : (c : Condition) → y.condition ≡ c → was_outside after.list known u.number y.number c ≡ true → ⊥
        by_condition Running same outside = subst (IsKeptIn after set) same (closed y listed inside)
        by_condition (Waiting q m) same outside =
            let none = neither (has_stuck_number known y.number) (y.number == u.number) (from_not_true (has_stuck_number known y.number || y.number == u.number) outside) in
            let stuck = live_was_stuck set set_closed y listed (ap is_live_task same) (λ e. let f = eq-eqb y.number u.number e in let g = none.1 in absurd (cc)) inside in
            let off = none.0 in
            absurd (cc)
        by_condition Ended same outside = absurd (cc)
        by_condition AnyTask same outside = freed_not_in y listed inside AnyTask same outside
        by_condition (OneOf names tasks) same outside =
            let w = any_is (is_unstuck_of known tasks) after.list outside in
            let parts = and_parts (is_unstuck known w.0) (list_any (λ j. j == w.0.number) tasks) w.2 in
            let more = and_parts (is_live_task w.0.condition) (not (has_stuck_number known w.0.number)) parts.0 in
            let all : IsKeptIn after set (OneOf names tasks) = subst (IsKeptIn after set) same (closed y listed inside) in
            let in_w = all w.0 w.1 more.0 (has_number tasks w.0 parts.1) in
            let new = from_not_true (has_stuck_number known w.0.number) more.1 in
            elim (cases_Bool (w.0.number == u.number)) [
              | inr apart ↦
                  absurd (let stuck = live_was_stuck set set_closed w.0 w.1 more.0 (λ e. let f = eq-eqb w.0.number u.number e in absurd (cc)) in_w in cc)
              | inl own ↦
                  (let is_u = eqb-true w.0.number u.number own in
                  let other : y.number ≡ u.number → ⊥ = λ e. let f = ap (λ (x : Participant). is_live_task x.condition) (beside.only y listed e) in let g = ap is_live_task same in absurd (cc) in
                  let has : list_any (λ j. j == u.number) tasks ≡ true = subst (λ j. list_any (λ x. x == j) tasks ≡ true) is_u parts.1 in
                  let none : needs_in after.list known u y.number (OneOf names tasks) ≡ false = subst (λ c. needs_in after.list known u y.number c ≡ false) same (needs_not y listed other) in
                  freed_not_in y listed inside (OneOf names tasks) same
                  (from_not_not (list_any (runs_as_one_of tasks) after.list) (not_other (list_any (λ j. j == u.number) tasks) (not (list_any (runs_as_one_of tasks) after.list)) none has)))
            ]

  -- so it stands in no closed set
  pub unneeded_out : waits_unneeded after.list known u u.condition ≡ true → (set : ℕ → Bool) → IsClosedSet after set → set u.number ≡ true → ⊥
  unneeded_out on set closed inside = by_condition u.condition refl on
    where
      by_condition : (c : Condition) → u.condition ≡ c → waits_unneeded after.list known u c ≡ true → ⊥
      by_condition Running same alone = absurd (cc)
      by_condition (Waiting p n) same alone =
          let parts = and_parts (not (list_any (is_inside_below after.list known u.number p n) after.list)) (not (list_any (needs_other after.list known u) after.list)) alone in
          let unneeded = from_not_true (list_any (needs_other after.list known u) after.list) parts.1 in
          let nobody = from_not_true (list_any (is_inside_below after.list known u.number p n) after.list) parts.0 in
          let (y, in_y, below, on_y) : IsKeptIn after set (Waiting p n) = subst (IsKeptIn after set) same (closed u beside.within inside) in
          let outside =
          from_not_not (was_outside after.list known u.number y.number y.condition)
          (not_other (has_phase_below y p n) (not (was_outside after.list known u.number y.number y.condition)) (none_passes (is_inside_below after.list known u.number p n) after.list y in_y nobody) below) in
          was_outside_out unneeded set closed y in_y (ap is_live_task same) outside on_y
      by_condition Ended same alone = absurd (cc)
      by_condition AnyTask same alone = absurd (cc)
      by_condition (OneOf names tasks) same alone = absurd (cc)
