-- The task with which the walk begins waits, and is one of the plan.
use Rattle.std.proofs.Common.{◌≡◌, ℕ, ◌<◌, Bool, true, Option, Some, None, length, ap, subst}
use Rattle.std.specs.Prelude.{Contains, slice_get}
use Rattle.armus_base.specs.declared.ids.TaskId.{TaskId}
use Rattle.armus_base.specs.Finals.{list_below}
use Rattle.explain_tasks.specs.declared.situation.Situation.{Situation}
use Rattle.explain_tasks.specs.declared.situation.Situation.TheVariants.{Deadlocked, Held, HasEnded, NotForkedYet, NeverForked}
use Rattle.explain_tasks.specs.Facts.{FactsValue, is_deadlocked, is_waiting, situation_of, tasks_that}
use Rattle.explain_tasks.specs.Nexts.{first_or}
use Rattle.explain_deadlock.specs.Verdicts.{walk_start}
use Rattle.explain_tasks.proofs.Filters.{below_is, passed_is}
use Rattle.explain_deadlock.proofs.NextInside.{first_contains}

-- a task that is deadlocked waits
pub deadlocked_waits : (s : Situation) → is_deadlocked s ≡ true → is_waiting s ≡ true
deadlocked_waits Deadlocked e = e
deadlocked_waits Held e = absurd (cc)
deadlocked_waits HasEnded e = absurd (cc)
deadlocked_waits NotForkedYet e = absurd (cc)
deadlocked_waits NeverForked e = absurd (cc)

module _ (f : FactsValue) where
  -- a task that stands so is one below the number of tasks, and passes the test
  pub that_is : (test : Situation → Bool) (s : TaskId) → Contains (tasks_that test f) s → (s.0 < length f.standings) × (test (situation_of f s.0) ≡ true)
  that_is test s m =
      let passed = passed_is (λ (t : TaskId). test (situation_of f t.0)) (list_below (λ t. record { 0 = t }) (length f.standings)) s m in
      let at = below_is (λ (t : ℕ). record { 0 = t }) (length f.standings) s passed.0 in
      (subst (λ k. k < length f.standings) (ap (λ (t : TaskId). t.0) at.2) at.1, passed.1)

  by_first : (a b : Option TaskId) (P : TaskId → Type 0) → ((u : TaskId) → a ≡ Some u → P u) → ((u : TaskId) → b ≡ Some u → P u) → (u : TaskId) → first_or a b ≡ Some u → P u
  by_first None b P one other u is = other u is
  by_first (Some t) b P one other u is = one u is

  -- the start waits, and is a task
  pub start_waits : (s : TaskId) → walk_start f ≡ Some s → (s.0 < length f.standings) × (is_waiting (situation_of f s.0) ≡ true)
  start_waits s is =
      by_first (slice_get (tasks_that is_deadlocked f) 0) (slice_get (tasks_that is_waiting f) 0)
      (λ u. (u.0 < length f.standings) × (is_waiting (situation_of f u.0) ≡ true))
      (λ u e. let t = that_is is_deadlocked u (first_contains (tasks_that is_deadlocked f) u e) in (t.0, deadlocked_waits (situation_of f u.0) t.1))
      (λ u e. that_is is_waiting u (first_contains (tasks_that is_waiting f) u e)) s is
