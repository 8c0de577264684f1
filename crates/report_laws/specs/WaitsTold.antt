-- That the statement that is told of an op of an activity, and of its wait there, is the one at which the move is made to which the op belongs.
use Rattle.std.specs.Prelude.{◌≡◌, ◌<◌, ◌≤◌, ℕ, suc, true, List, [], Ok, Some, length, slice_index_or, take}
use Rattle.std.specs.List.{slice_get}
use Rattle.armus_base.specs.declared.op.Op.{Op}
use Rattle.armus_base.specs.Plans.{code_of}
use Rattle.clock_syntax.specs.Trees.{ClockTree}
use Rattle.clock_semantics.specs.Moves.{Move, code_of_moves}
use Rattle.clock_semantics.specs.Unfolding.{ClockComing, ClockUnfolding, clock_unfolded, plan_of_moves}
use Rattle.clock_source_map.specs.ClockOps.{all_op_origins, is_await}
use Rattle.clock_source_map.specs.ClockOrigins.{all_waits}
use Rattle.explain_clock.specs.ClockFacts.{ClockWait, IsWaitOf}
use Rattle.report_laws.specs.MovesMade.{MakesMoveAt}

-- op i of the code of these moves is one of move k
abbrev pub IsOpOfMove : List Move → ℕ → ℕ → Type 0
IsOpOfMove moves k i = length (code_of_moves (take k moves)) ≤ i × i < length (code_of_moves (take (suc k) moves))

-- each op comes from the statement at which the move is made to which it belongs
abbrev pub OpsAreToldByTheirMoves : Type 0
OpsAreToldByTheirMoves =
    (p : ClockTree) (u : ClockUnfolding) (t k i : ℕ) (m : ClockComing) (move : Move) → clock_unfolded p ≡ Ok u → MakesMoveAt u t k m move →
    IsOpOfMove (slice_index_or u.moves t []) k i → slice_get (slice_index_or (all_op_origins u) t []) i ≡ Some (Some m.statement)

-- where an activity stands at an op that waits, the statement at which it is said to wait is the one at which the move is made to which this op belongs
abbrev pub WaitsAreToldByTheirMoves : Type 0
WaitsAreToldByTheirMoves =
    (p : ClockTree) (u : ClockUnfolding) (t k clocks done : ℕ) (m : ClockComing) (move : Move) (w : ClockWait) (op : Op) → clock_unfolded p ≡ Ok u →
    MakesMoveAt u t k m move →
    (wait : IsWaitOf (code_of (plan_of_moves u) t) (slice_index_or (all_waits u) t []) (slice_index_or (all_op_origins u) t []) clocks done w) →
    slice_get (code_of (plan_of_moves u) t) wait.op ≡ Some op → is_await op ≡ true → IsOpOfMove (slice_index_or u.moves t []) k wait.op →
    w.statement ≡ Some m.statement
