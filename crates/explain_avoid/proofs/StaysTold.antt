-- Somebody was refused or waits, by the standings, just where a task stands so.
use Rattle.std.proofs.Common.{◌≡◌, ℕ, ◌<◌, ◌≤◌, Bool, true, List, [], ◌∷◌, ◌++◌, length, ap, arith, inl, inr, refl, subst}
use Rattle.std.specs.Prelude.{◌⊎◌, Contains, slice_index_or}
use Rattle.armus_base.specs.declared.ids.TaskId.{TaskId}
use Rattle.armus_base.specs.Finals.{list_below}
use Rattle.armus_base.proofs.Elements.{Contains-head, nothing_in_nil}
use Rattle.report.specs.declared.standing.Standing.{Standing}
use Rattle.report.specs.declared.standing.Standing.TheVariants.{Done}
use Rattle.explain_tasks.proofs.Filters.{below_is, passed_from, passed_is}
use Rattle.explain_deadlock.proofs.TasksThat.{task_below}
use Rattle.explain_avoid.specs.AvoidedWords.{has_some, was_refused, waits_at_the_end, somebody_stays, tasks_with}

-- one of two lists has something, or none has
split : (a b : List TaskId) → has_some (a ++ b) ≡ true → ((x : TaskId) × Contains a x) ⊎ ((x : TaskId) × Contains b x)
split [] [] e = absurd (cc)
split [] (x ∷ b) e = inr (x, Contains-head x b)
split (x ∷ a) b e = inl (x, Contains-head x a)

join : (a b : List TaskId) → ((x : TaskId) × Contains a x) ⊎ ((x : TaskId) × Contains b x) → has_some (a ++ b) ≡ true
join (x ∷ a) b e = refl
join [] (x ∷ b) e = refl
join [] [] (inl (x, m)) = absurd (nothing_in_nil x m)
join [] [] (inr (x, m)) = absurd (nothing_in_nil x m)

pub first_has : (a b : List TaskId) → 1 ≤ length a → true ≡ has_some (a ++ b)
first_has [] b some = absurd (omega arith)
first_has (x ∷ a) b some = refl

module _ (standings : List Standing) where
  -- how task t stands
  abbrev pub standing : ℕ → Standing
  standing t = slice_index_or standings t Done

  pub task_with : (test : Standing → Bool) (t : TaskId) → Contains (tasks_with test standings) t → (t.0 < length standings) × (test (standing t.0) ≡ true)
  task_with test t m =
      let passed = passed_is (λ (u : TaskId). test (standing u.0)) (list_below (λ u. record { 0 = u }) (length standings)) t m in
      let at = below_is (λ (u : ℕ). record { 0 = u }) (length standings) t passed.0 in
      (subst (λ k. k < length standings) (ap (λ (u : TaskId). u.0) at.2) at.1, passed.1)

  pub task_has : (test : Standing → Bool) (t : TaskId) → t.0 < length standings → test (standing t.0) ≡ true → Contains (tasks_with test standings) t
  task_has test t lt on =
      passed_from (λ (v : TaskId). test (standing v.0)) (list_below (λ v. record { 0 = v }) (length standings)) t (task_below (length standings) t lt) on

  with_task : (test : Standing → Bool) (t : ℕ) → t < length standings → test (standing t) ≡ true → (u : TaskId) × Contains (tasks_with test standings) u
  with_task test t lt on = let u : TaskId = record { 0 = t } in (u, task_has test u lt on)

  -- a task stands so
  abbrev pub StandsSo : Type 0
  StandsSo = (t : ℕ) × (t < length standings) × ((was_refused (standing t) ≡ true) ⊎ (waits_at_the_end (standing t) ≡ true))

  pub standing_stays : somebody_stays standings ≡ true → StandsSo
  standing_stays some = elim (split (tasks_with was_refused standings) (tasks_with waits_at_the_end standings) some) [
    | inl one ↦ let on = task_with was_refused one.0 one.1 in (one.0.0, on.0, inl on.1)
    | inr one ↦ let on = task_with waits_at_the_end one.0 one.1 in (one.0.0, on.0, inr on.1)
  ]

  pub stays_by_standing : StandsSo → somebody_stays standings ≡ true
  stays_by_standing (t, lt, how) =
      join (tasks_with was_refused standings) (tasks_with waits_at_the_end standings)
      (elim how [ inl on ↦ inl (with_task was_refused t lt on) | inr on ↦ inr (with_task waits_at_the_end t lt on) ])
