-- Small clock programs, unfolded by computation; and one step more at a limit.
use Rattle.std.proofs.Common.{◌≡◌, ℕ, ◌+◌, ◌*◌, Bool, true, false, Err, length, arith, ap, refl, ◌∙◌}
use Rattle.std.specs.Prelude.{nat_le, nat_lt}
use Rattle.std.proofs.lemmas.Bool.Decides.{nat_tests}
use Rattle.pl_plan.specs.Unfolding.{◌>>=◌, Outcome, fault, fault_unless}
use Rattle.clock_semantics.specs.Unfolding.{act_async, act_close, act_finish, act_plain, clock_of, clock_plan_of, clock_unfolded, clocks_of, come_all, count_clock_visit, move_at, next_activity, next_clock, stop, unfold_activities}
use Rattle.clock_semantics.specs.calls.WorkedClocks.{ArePlanned, ClockLimitsHold, HaveMoves, NoActivityMore, NoActivityWithoutCells, NoClockMore, NoClockOpMore, NoClockVisitMore, NoClockWithoutCells, NoEndMore, NoFinishMore, NoFinishWithoutCells, NoVisitAtAnEnd, worked_clock_faults, worked_clock_plans, worked_moves}

pub plans_worked : ArePlanned worked_clock_plans
unfolding clock_plan_of clock_unfolded unfold_activities come_all count_clock_visit act_plain act_async act_finish act_close clock_of clocks_of next_clock
    next_activity move_at stop
plans_worked = (refl, (refl, (refl, (refl, (refl, (refl, (refl, (refl, (refl, tt)))))))))

pub moves_worked : HaveMoves worked_moves
unfolding clock_unfolded unfold_activities come_all count_clock_visit act_plain act_async act_finish act_close clock_of clocks_of next_clock next_activity move_at stop
moves_worked = (refl, (refl, (refl, tt)))

pub faults_worked : ArePlanned worked_clock_faults
unfolding clock_plan_of clock_unfolded unfold_activities come_all count_clock_visit act_plain act_async act_finish act_close clock_of clocks_of next_clock
    next_activity move_at stop
faults_worked =
    (refl, (refl, (refl, (refl, (refl, (refl, (refl, (refl, (refl, (refl, (refl, (refl, (refl, (refl, (refl, (refl, tt))))))))))))))))

-- ---- one step more at a limit

-- a test that does not hold is a fault, whatever comes behind
fails : {A B : Type 0} (b : Bool) (kind n : ℕ) (o : Outcome A) (f : A → Outcome B) → b ≡ false → ((fault_unless b kind n >>= λ _. o) >>= f) ≡ Err (fault kind n)
fails b kind n o f e = ap (λ z. (fault_unless z kind n >>= λ _. o) >>= f) e

-- the test before holds
passes_first : {A B : Type 0} (a b : Bool) (kind other n : ℕ) (o : Outcome A) (f : A → Outcome B) → a ≡ true → b ≡ false →
    ((fault_unless a other n >>= λ _. fault_unless b kind n >>= λ _. o) >>= f) ≡ Err (fault kind n)
passes_first a b kind other n o f holds e = ap (λ z. (fault_unless z other n >>= λ _. fault_unless b kind n >>= λ _. o) >>= f) holds ∙ fails b kind n o f e

no_activity_more : NoActivityMore
unfolding act_async clocks_of next_activity
no_activity_more t n body s e = fails (nat_lt (length s.parents) 4096) 5 n _ _ (grind (arith, nat_tests))

no_clock_more : NoClockMore
unfolding act_plain next_clock
no_clock_more t n y s e = fails (nat_lt (length s.makers) 1024) 6 n _ _ (grind (arith, nat_tests))

no_finish_more : NoFinishMore
unfolding act_finish next_clock
no_finish_more t n s e = fails (nat_lt (length s.makers) 1024) 6 n _ _ (grind (arith, nat_tests))

no_activity_without_cells : NoActivityWithoutCells
unfolding act_async clocks_of next_activity
no_activity_without_cells t n body s few many =
    passes_first (nat_lt (length s.parents) 4096) (nat_le ((length s.parents + 1) * (length s.makers + 1)) 1048576) 7 5 n _ _
    (grind (arith, nat_tests)) (grind (arith, nat_tests))

no_clock_without_cells : NoClockWithoutCells
unfolding act_plain next_clock
no_clock_without_cells t n y s few many =
    passes_first (nat_lt (length s.makers) 1024) (nat_le (length s.parents * (length s.makers + 1 + 1)) 1048576) 7 6 n _ _
    (grind (arith, nat_tests)) (grind (arith, nat_tests))

no_finish_without_cells : NoFinishWithoutCells
unfolding act_finish next_clock
no_finish_without_cells t n s few many =
    passes_first (nat_lt (length s.makers) 1024) (nat_le (length s.parents * (length s.makers + 1 + 1)) 1048576) 7 6 n _ _
    (grind (arith, nat_tests)) (grind (arith, nat_tests))

-- a last test that does not hold is a fault
fails_last : {A : Type 0} (b : Bool) (kind n : ℕ) (o : Outcome A) → b ≡ false → (fault_unless b kind n >>= λ _. o) ≡ Err (fault kind n)
fails_last b kind n o e = ap (λ z. fault_unless z kind n >>= λ _. o) e

no_op_more : NoClockOpMore
unfolding move_at
no_op_more t n p s e = fails_last (nat_le (s.ops + 1) 1048576) 8 n _ (grind (arith, nat_tests))

no_end_more : NoEndMore
unfolding move_at
no_end_more t n f s e = fails_last (nat_le (s.ops + 3) 1048576) 8 n _ (grind (arith, nat_tests))

no_visit_more : NoClockVisitMore
unfolding count_clock_visit
no_visit_more n s e = fails_last (nat_lt s.visits 4194304) 9 n _ (grind (arith, nat_tests))

no_visit_at_an_end : NoVisitAtAnEnd
unfolding act_close
no_visit_at_an_end t n s e none = ap (λ fs. act_close t n fs s) none

pub limits_hold : ClockLimitsHold
limits_hold = record {
  activities = no_activity_more;
  clocks = (no_clock_more, no_finish_more);
  activity_cells = no_activity_without_cells;
  clock_cells = (no_clock_without_cells, no_finish_without_cells);
  ops = (no_op_more, no_end_more);
  visits = (no_visit_more, no_visit_at_an_end);
}
