-- The final states of small kernels, computed by the definitions.
use Rattle.std.proofs.Common.{◌≡◌, arith, refl}
use Rattle.std.specs.Prelude.{[], ◌∷◌}
use Rattle.armus_base.specs.Finals.{final_of}
use Rattle.armus_base.specs.Plans.{action_at, actions}
use Rattle.armus_base.specs.Runs.{IsPlainRun, state_after}
use Rattle.armus_base.specs.calls.Serial.{scheduled}
use Rattle.armus_base.specs.calls.TwoTasks.{all_turns, two_tasks}
use Rattle.armus_base.specs.calls.WorkedTexts.{EndsIn, averaging, averaging_end, averaging_schedule, awaits_ahead, awaits_ahead_end, awaits_ahead_schedule, behind_a_cycle, behind_a_cycle_end, behind_a_cycle_schedule, ended_member, ended_member_end, ended_member_schedule, looks_back, looks_back_end, looks_back_schedule, three_tasks, three_tasks_end, three_tasks_schedule, two_tasks_avoided, two_tasks_end, two_tasks_schedule, unforked_member, unforked_member_end, unforked_member_schedule}
use Rattle.armus_base.proofs.DeadTests.{dead_if}
use Rattle.armus_base.proofs.RunTests.{maximal_if, run_if}

averaging_runs : IsPlainRun averaging (scheduled averaging averaging_schedule)
unfolding actions action_at
averaging_runs = run_if averaging averaging_schedule refl

pub averaging_ends_in : EndsIn averaging averaging_schedule averaging_end (0 ∷ 1 ∷ 2 ∷ 3 ∷ [])
unfolding actions action_at
averaging_ends_in = record {
  run = averaging_runs;
  maximal = maximal_if averaging (omega arith) (scheduled averaging averaging_schedule) averaging_runs refl;
  value = refl;
  dead_tasks = dead_if averaging (omega arith) (scheduled averaging averaging_schedule) averaging_runs.0 (0 ∷ 1 ∷ 2 ∷ 3 ∷ []) [] refl;
}

two_tasks_runs : IsPlainRun two_tasks (scheduled two_tasks two_tasks_schedule)
unfolding actions action_at
two_tasks_runs = run_if two_tasks two_tasks_schedule refl

pub two_tasks_ends_in : EndsIn two_tasks two_tasks_schedule two_tasks_end (0 ∷ 1 ∷ [])
unfolding actions action_at
two_tasks_ends_in = record {
  run = two_tasks_runs;
  maximal = maximal_if two_tasks (omega arith) (scheduled two_tasks two_tasks_schedule) two_tasks_runs refl;
  value = refl;
  dead_tasks = dead_if two_tasks (omega arith) (scheduled two_tasks two_tasks_schedule) two_tasks_runs.0 (0 ∷ 1 ∷ []) [] refl;
}

three_tasks_runs : IsPlainRun three_tasks (scheduled three_tasks three_tasks_schedule)
unfolding actions action_at
three_tasks_runs = run_if three_tasks three_tasks_schedule refl

pub three_tasks_ends_in : EndsIn three_tasks three_tasks_schedule three_tasks_end (1 ∷ 2 ∷ 3 ∷ [])
unfolding actions action_at
three_tasks_ends_in = record {
  run = three_tasks_runs;
  maximal = maximal_if three_tasks (omega arith) (scheduled three_tasks three_tasks_schedule) three_tasks_runs refl;
  value = refl;
  dead_tasks = dead_if three_tasks (omega arith) (scheduled three_tasks three_tasks_schedule) three_tasks_runs.0 (1 ∷ 2 ∷ 3 ∷ []) (0 ∷ []) refl;
}

behind_a_cycle_runs : IsPlainRun behind_a_cycle (scheduled behind_a_cycle behind_a_cycle_schedule)
unfolding actions action_at
behind_a_cycle_runs = run_if behind_a_cycle behind_a_cycle_schedule refl

pub behind_a_cycle_ends_in : EndsIn behind_a_cycle behind_a_cycle_schedule behind_a_cycle_end (0 ∷ 1 ∷ 2 ∷ [])
unfolding actions action_at
behind_a_cycle_ends_in = record {
  run = behind_a_cycle_runs;
  maximal = maximal_if behind_a_cycle (omega arith) (scheduled behind_a_cycle behind_a_cycle_schedule) behind_a_cycle_runs refl;
  value = refl;
  dead_tasks = dead_if behind_a_cycle (omega arith) (scheduled behind_a_cycle behind_a_cycle_schedule) behind_a_cycle_runs.0 (0 ∷ 1 ∷ 2 ∷ []) [] refl;
}

ended_member_runs : IsPlainRun ended_member (scheduled ended_member ended_member_schedule)
unfolding actions action_at
ended_member_runs = run_if ended_member ended_member_schedule refl

pub ended_member_ends_in : EndsIn ended_member ended_member_schedule ended_member_end []
unfolding actions action_at
ended_member_ends_in = record {
  run = ended_member_runs;
  maximal = maximal_if ended_member (omega arith) (scheduled ended_member ended_member_schedule) ended_member_runs refl;
  value = refl;
  dead_tasks = dead_if ended_member (omega arith) (scheduled ended_member ended_member_schedule) ended_member_runs.0 [] (0 ∷ 1 ∷ []) refl;
}

unforked_member_runs : IsPlainRun unforked_member (scheduled unforked_member unforked_member_schedule)
unfolding actions action_at
unforked_member_runs = run_if unforked_member unforked_member_schedule refl

pub unforked_member_ends_in : EndsIn unforked_member unforked_member_schedule unforked_member_end []
unfolding actions action_at
unforked_member_ends_in = record {
  run = unforked_member_runs;
  maximal = maximal_if unforked_member (omega arith) (scheduled unforked_member unforked_member_schedule) unforked_member_runs refl;
  value = refl;
  dead_tasks = dead_if unforked_member (omega arith) (scheduled unforked_member unforked_member_schedule) unforked_member_runs.0 [] (0 ∷ 1 ∷ []) refl;
}

awaits_ahead_runs : IsPlainRun awaits_ahead (scheduled awaits_ahead awaits_ahead_schedule)
unfolding actions action_at
awaits_ahead_runs = run_if awaits_ahead awaits_ahead_schedule refl

pub awaits_ahead_ends_in : EndsIn awaits_ahead awaits_ahead_schedule awaits_ahead_end (0 ∷ [])
unfolding actions action_at
awaits_ahead_ends_in = record {
  run = awaits_ahead_runs;
  maximal = maximal_if awaits_ahead (omega arith) (scheduled awaits_ahead awaits_ahead_schedule) awaits_ahead_runs refl;
  value = refl;
  dead_tasks = dead_if awaits_ahead (omega arith) (scheduled awaits_ahead awaits_ahead_schedule) awaits_ahead_runs.0 (0 ∷ []) [] refl;
}

looks_back_runs : IsPlainRun looks_back (scheduled looks_back looks_back_schedule)
unfolding actions action_at
looks_back_runs = run_if looks_back looks_back_schedule refl

pub looks_back_ends_in : EndsIn looks_back looks_back_schedule looks_back_end []
unfolding actions action_at
looks_back_ends_in = record {
  run = looks_back_runs;
  maximal = maximal_if looks_back (omega arith) (scheduled looks_back looks_back_schedule) looks_back_runs refl;
  value = refl;
  dead_tasks = dead_if looks_back (omega arith) (scheduled looks_back looks_back_schedule) looks_back_runs.0 [] (0 ∷ 1 ∷ []) refl;
}

-- the serial avoided run of the two tasks ends so
pub two_tasks_avoided_value : final_of two_tasks (state_after all_turns) ≡ two_tasks_avoided
two_tasks_avoided_value = refl
