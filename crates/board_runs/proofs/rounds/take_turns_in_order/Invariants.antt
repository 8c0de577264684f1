use Rattle.std.proofs.Common.{◌≡◌, ◌≤◌, ◌+◌, ℕ, List, length, map}
use Rattle.std.specs.Prelude.{sum_by}
use Rattle.armus_base.specs.Plans.{Action}
use Rattle.board_runs.specs.calls.Turns.{in_32_bits}
use Rattle.board_runs.proofs.Rounding.{IsSoFar}
use Rattle.board_runs.proofs.rounds.take_turns_in_order.Given as goal

abbrev pub invariant-loop-task : goal.invariant-loop-task
invariant-loop-task g l = record {
  owns : List (List Action);
  total : ℕ;
  so_far : IsSoFar l.setting.bound l.setting.board.now l.task-index 0 total owns (map g.T.TakeTurn.working l.initial.tasks) (map g.T.TakeTurn.working l.tasks);
  counted : l.cells.loads ≤ l.initial.cells.loads + total;
  actions : l.made ≡ in_32_bits (sum_by length owns);
}
