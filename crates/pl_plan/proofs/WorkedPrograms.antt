-- Small programs, unfolded by computation; and one step more at a limit.
use Rattle.std.proofs.Common.{◌≡◌, ℕ, ◌+◌, ◌*◌, Bool, true, false, Err, length, arith, ap, refl, ◌∙◌}
use Rattle.std.specs.Prelude.{nat_le, nat_lt, sum_by}
use Rattle.std.proofs.lemmas.Bool.Decides.{nat_tests}
use Rattle.pl_plan.specs.Unfolding.{◌>>=◌, Outcome, UnfoldingState, fault, fault_unless}
use Rattle.pl_plan.specs.Unfolding.{plan_of, unfold_tasks, make_visits, count_visit, act, act_fork, member_of, add_op, leave, leave_below}
use Rattle.pl_plan.specs.calls.WorkedPrograms.{AreWorked, LimitsHold, NoOpMore, NoPhaserMore, NoPhaserWithoutCells, NoTaskMore, NoTaskWithoutCells, NoVisitMore, worked_faults, worked_plans}

pub plans_worked : AreWorked worked_plans
unfolding plan_of unfold_tasks make_visits count_visit act act_fork member_of add_op leave leave_below
plans_worked = (refl, (refl, (refl, (refl, tt))))

pub faults_worked : AreWorked worked_faults
unfolding plan_of unfold_tasks make_visits count_visit act act_fork member_of add_op
faults_worked =
    (refl, (refl, (refl, (refl, (refl, (refl, (refl, (refl, (refl, (refl, (refl, (refl, (refl, (refl, tt))))))))))))))

-- ---- one step more at a limit

-- a test that does not hold is a fault, whatever comes behind
fails : (b : Bool) (kind n : ℕ) (o : Outcome UnfoldingState) → b ≡ false → (fault_unless b kind n >>= λ _. o) ≡ Err (fault kind n)
fails b kind n o e = ap (λ z. fault_unless z kind n >>= λ _. o) e

no_task_more : NoTaskMore
unfolding act
no_task_more t n x s e = fails (nat_lt (length s.plan.parents) 4096) 7 n _ (grind (arith, nat_tests))

no_phaser_more : NoPhaserMore
unfolding act
no_phaser_more t n x s e = fails (nat_lt (length s.plan.makers) 1024) 8 n _ (grind (arith, nat_tests))

-- the test before holds
passes_first : (a b : Bool) (kind other n : ℕ) (o : Outcome UnfoldingState) → a ≡ true → b ≡ false →
    (fault_unless a other n >>= λ _. fault_unless b kind n >>= λ _. o) ≡ Err (fault kind n)
passes_first a b kind other n o holds e = ap (λ z. fault_unless z other n >>= λ _. fault_unless b kind n >>= λ _. o) holds ∙ fails b kind n o e

no_task_without_cells : NoTaskWithoutCells
unfolding act
no_task_without_cells t n x s few many =
    passes_first (nat_lt (length s.plan.parents) 4096) (nat_le ((length s.plan.parents + 1) * (length s.plan.makers + 1)) 1048576) 11 7 n _
    (grind (arith, nat_tests)) (grind (arith, nat_tests))

no_phaser_without_cells : NoPhaserWithoutCells
unfolding act
no_phaser_without_cells t n x s few many =
    passes_first (nat_lt (length s.plan.makers) 1024) (nat_le (length s.plan.parents * (length s.plan.makers + 1 + 1)) 1048576) 11 8 n _
    (grind (arith, nat_tests)) (grind (arith, nat_tests))

no_op_more : NoOpMore
unfolding add_op
no_op_more t n o s e = fails (nat_lt (sum_by length s.plan.codes) 1048576) 9 n _ (grind (arith, nat_tests))

no_visit_more : NoVisitMore
unfolding count_visit
no_visit_more n s e = fails (nat_lt s.visits 4194304) 10 n _ (grind (arith, nat_tests))

pub limits_hold : LimitsHold
limits_hold = record {
  tasks = no_task_more;
  phasers = no_phaser_more;
  task_cells = no_task_without_cells;
  phaser_cells = no_phaser_without_cells;
  ops = no_op_more;
  visits = no_visit_more;
}
