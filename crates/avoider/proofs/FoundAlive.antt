-- On a board that avoids deadlock what was found of some tasks has no cycle of these tasks alone.
use mathlib.Core.Path.{fun_ext}
use Rattle.std.proofs.Common.{◌≡◌, ℕ, Bool, true, false, Option, List, [], ◌∷◌, sym, ap, refl, subst, ◌⊎◌, inl, inr}
use Rattle.std.specs.Prelude.{Contains}
use Rattle.std.proofs.lemmas.Bool.{cases_eq, false≢true}
use Rattle.armus_base.specs.declared.ids.PhaserId.{PhaserId}
use Rattle.armus_base.specs.declared.ids.TaskId.{TaskId}
use Rattle.armus_base.specs.declared.status.Member.{Member}
use Rattle.armus_base.specs.declared.status.Status.{Status}
use Rattle.armus_base.specs.calls.Boards.{IsLawful, steps_of}
use Rattle.armus_base.specs.CheckedPlans.{IsCheckedPlan}
use Rattle.armus_base.specs.Deadlocks.{IsDeadIn, IsDeadlockedSet, IsListedAt, IsListedOn}
use Rattle.armus_base.specs.calls.Decisions.{HasFound}
use Rattle.armus_base.specs.Plans.{Plan}
use Rattle.armus_base.specs.Runs.{Place, places}
use Rattle.armus_base.proofs.BoardRuns.{board_legal, lawful_state, nobody_dead_at}
use Rattle.armus_base.proofs.CollectedIsDead.{collected_is_dead}
use Rattle.armus_base.proofs.Elements.{Contains-cons_cases, Contains-head, Contains-tail, nothing_in_nil}
use Rattle.dep_state.proofs.DeadSets.{IsDeadlockedList}

-- a task stands in a list, or it does not
pub among_or_not : (ts : List TaskId) (t : TaskId) → Contains ts t ⊎ (Contains ts t → ⊥)
among_or_not [] t = inr (λ m. nothing_in_nil t m)
among_or_not (u ∷ ts) t =
    elim (cases_eq u.0 t.0) [
      | inl same ↦ inl (subst (λ v. Contains (u ∷ ts) v) (ap (λ k. record { 0 = k }) same) (Contains-head u ts))
      | inr other ↦ elim (among_or_not ts t) [
        | inl m ↦ inl (Contains-tail u ts t m)
        | inr none ↦ inr (λ m. elim (Contains-cons_cases u ts t m) [ inl e ↦ other (ap (λ v. v.0) e) | inr later ↦ none later ])
      ]
    ]

-- which it is, as a test
as_test : {P : Type 0} → P ⊎ (P → ⊥) → Bool
as_test (inl is) = true
as_test (inr none) = false

test_is : {P : Type 0} (d : P ⊎ (P → ⊥)) → as_test d ≡ true → P
unfolding as_test
test_is (inl is) on = is
test_is (inr none) on = absurd (false≢true on)

test_from : {P : Type 0} (d : P ⊎ (P → ⊥)) → P → as_test d ≡ true
unfolding as_test
test_from (inl is) p = refl
test_from (inr none) p = absurd (none p)

is_among : List TaskId → ℕ → Bool
is_among ts n = as_test (among_or_not ts (record { 0 = n }))

among_is : (ts : List TaskId) (n : ℕ) → is_among ts n ≡ true → Contains ts (record { 0 = n })
unfolding is_among
among_is ts n on = test_is (among_or_not ts (record { 0 = n })) on

among_from : (ts : List TaskId) (t : TaskId) → Contains ts t → is_among ts t.0 ≡ true
unfolding is_among
among_from ts t m = test_from (among_or_not ts t) m

phase_of : PhaserId → ℕ → Member
phase_of p n = record { p = p; n = n }

-- a deadlocked list is a deadlocked set
set_of_list : (ss : List Status) (ts : List TaskId) (u : TaskId) → Contains ts u → IsDeadlockedList ss ts → IsDeadlockedSet (IsListedOn ss) (IsListedAt ss) (is_among ts)
unfolding phase_of
set_of_list ss ts u m deadlocked =
    record {
      some = (u.0, among_from ts u m);
      each = λ n on.
          let (s, i, same, (v, j, inside, (q, x, lt, at, (on_phaser, below)))) = deadlocked (record { 0 = n }) (among_is ts n on) in
          record {
            event = s.event;
            waits = (s, i, ap (λ (w : TaskId). w.0) same, refl);
            by = v.t.0;
            inside = among_from ts v.t inside;
            phase = x.n;
            impedes = (v, j, refl, subst (λ (y : Member). Contains v.phases y) (ap (λ (p : PhaserId). phase_of p x.n) on_phaser) (q, lt, at));
            below = below;
          };
    }

-- in a lawful state that is as far on as what was found of some tasks
module _ (plan : Plan) (checked : IsCheckedPlan plan) (a : ℕ → Place) (lock : Option ℕ) (lawful : IsLawful true plan a lock) (IsOne : ℕ → Type 0) (list : List Status)
    (at : ℕ → Place) (found : ℕ → ℕ → Place) (has : HasFound plan IsOne list at found a) where
  no_deadlocked_set : (tasks : ℕ → Bool) → ((u : ℕ) → tasks u ≡ true → IsOne u) → IsDeadlockedSet (IsListedOn list) (IsListedAt list) tasks → ⊥
  no_deadlocked_set tasks ones deadlocked =
      let there : places (steps_of lawful.entries) ≡ a = fun_ext lawful.there in
      let then : HasFound plan IsOne list at found (places (steps_of lawful.entries)) = subst (HasFound plan IsOne list at found) (sym there) has in
      let collected =
      collected_is_dead plan (steps_of lawful.entries) list tasks at found checked (board_legal true plan lawful.entries lawful.run) deadlocked
      (record {
        waiting = λ u e inside listed. then.waiting u e (ones u inside) listed;
        before = λ u e inside listed. then.before u e (ones u inside) listed;
        phases = λ u p n inside listed. then.phases u p n (ones u inside) listed;
        phases_before = λ u p n inside listed. then.phases_before u p n (ones u inside) listed;
      }) in
      nobody_dead_at plan a lock checked lawful deadlocked.some.0
      (subst (λ s. IsDeadIn s deadlocked.some.0) (lawful_state true plan a lock checked lawful)
      (record { tasks = tasks; inside = deadlocked.some.1; deadlocked = collected.1 }))

  -- each deadlocked list has a task that is none of these
  pub no_deadlocked_list : (ts : List TaskId) (u : TaskId) → ((v : TaskId) → Contains ts v → IsOne v.0) → Contains ts u → IsDeadlockedList list ts → ⊥
  no_deadlocked_list ts u ones m deadlocked =
      no_deadlocked_set (is_among ts) (λ n on. ones (record { 0 = n }) (among_is ts n on)) (set_of_list list ts u m deadlocked)
