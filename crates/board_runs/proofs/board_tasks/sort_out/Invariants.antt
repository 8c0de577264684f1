use Rattle.std.proofs.Common.{◌++◌, All}
use Rattle.std.specs.List.Sorted.{IsPermutation}
use Rattle.board_runs.specs.calls.Turns.{ActsNoMore, Working}
use Rattle.board_runs.proofs.board_tasks.sort_out.Given as goal

abbrev pub invariant-loop-task : goal.invariant-loop-task
invariant-loop-task l = record {
  same : IsPermutation (l.initial.ended.items ++ l.yielded) (l.live.items ++ l.ended.items);
  ended : All (λ (task : Working). ActsNoMore task.seat) l.ended.items;
  live : All (λ (task : Working). ActsNoMore task.seat → ⊥) l.live.items;
}
