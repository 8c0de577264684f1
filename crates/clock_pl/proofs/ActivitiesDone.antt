-- Activities one after the other.
use Rattle.std.proofs.Common.{◌≡◌, ℕ, zero, suc, ◌+◌, ◌-◌, ◌<◌, ◌≤◌, List, [], ◌∷◌, length, None, Ok, Err, ap, ◌∙◌, refl, arith}
use Rattle.std.specs.Prelude.{slice_get}
use Rattle.armus_base.specs.Limits.{max_tasks}
use Rattle.pl_plan.specs.Unfolding.{◌>>=◌}
use Rattle.pl_plan.specs.declared.fault.CheckFault.{CheckFault}
use Rattle.clock_pl.specs.inside.ClockChecker.{ClockChecker, KeptStart}
use Rattle.clock_pl.specs.inside.ClockCheckerSteps.{checker_activities, checker_started}

-- what is left to do of all is that from activity t on
pub record ActivitiesDone (old : ClockChecker) (t : ℕ) (k : ClockChecker) : Type 0 where
  pub all : checker_activities max_tasks 0 old ≡ checker_activities (max_tasks - t) t k
  pub within : t ≤ max_tasks

pub none_done : (old : ClockChecker) → ActivitiesDone old 0 old
none_done old = record { all = ap (λ m. checker_activities m 0 old) (let e : max_tasks ≡ max_tasks - 0 = omega arith in e); within = omega arith }

next_is : (m t : ℕ) (k : ClockChecker) → checker_activities (suc m) t k ≡ (checker_started t (slice_get k.starts t) k >>= checker_activities m (t + 1))
unfolding checker_activities
next_is m t k = refl

module _ (old : ClockChecker) (t : ℕ) (k : ClockChecker) (h : ActivitiesDone old t k) (lt : t < max_tasks) where
  rest : checker_activities max_tasks 0 old ≡ (checker_started t (slice_get k.starts t) k >>= checker_activities (max_tasks - (t + 1)) (t + 1))
  rest =
      h.all ∙ ap (λ m. checker_activities m t k) (let e : max_tasks - t ≡ suc (max_tasks - (t + 1)) = omega arith in e)
      ∙ next_is (max_tasks - (t + 1)) t k

  pub one_done : (new : ClockChecker) → checker_started t (slice_get k.starts t) k ≡ Ok new → ActivitiesDone old (t + 1) new
  one_done new e = record { all = rest ∙ ap (λ o. o >>= checker_activities (max_tasks - (t + 1)) (t + 1)) e; within = omega arith }

  pub one_fails : (f : CheckFault) → checker_started t (slice_get k.starts t) k ≡ Err f → checker_activities max_tasks 0 old ≡ Err f
  one_fails f e = rest ∙ ap (λ o. o >>= checker_activities (max_tasks - (t + 1)) (t + 1)) e

past : (sts : List KeptStart) (t : ℕ) → length sts ≤ t → slice_get sts t ≡ None
past [] t le = refl
past (st ∷ sts) zero le = absurd (omega arith)
past (st ∷ sts) (suc t) le = past sts t (omega arith)

none_left : (m t : ℕ) (k : ClockChecker) → length k.starts ≤ t → checker_activities m t k ≡ Ok k
unfolding checker_activities
none_left zero t k le = refl
none_left (suc m) t k le = ap (λ o. checker_started t o k >>= checker_activities m (t + 1)) (past k.starts t le) ∙ none_left m (t + 1) k (omega arith)

pub all_done : (old : ClockChecker) (t : ℕ) (k : ClockChecker) → ActivitiesDone old t k → length k.starts ≤ t → checker_activities max_tasks 0 old ≡ Ok k
all_done old t k h le = h.all ∙ none_left (max_tasks - t) t k le
