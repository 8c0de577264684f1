use Rattle.std.proofs.Common.{map}
use Rattle.board.specs.calls.Seats.{IsOf}
use Rattle.board.specs.calls.Steps.{IsSameSeat}
use Rattle.board_runs.specs.calls.Turns.{Working}
use Rattle.board_runs.specs.calls.Endings.{TakesAll}
use Rattle.board_runs.proofs.endings.take_in_all.Given as goal

abbrev pub invariant-loop-task : goal.invariant-loop-task
invariant-loop-task l = record {
  made : IsOf l.view l.board;
  same : IsSameSeat l.initial.view.view l.view.view;
  taken : TakesAll (map (λ (task : Working). task.seat) l.yielded) l.initial.view l.view;
}
