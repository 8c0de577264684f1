use Rattle.std.proofs.Common.{◌≡◌, All, None, length}
use Rattle.board.specs.calls.Seats.{IsNewSeat}
use Rattle.board.specs.calls.Views.{seen}
use Rattle.task_runner.proofs.site_runs.split_views.Given as goal

abbrev pub invariant-loop : goal.invariant-loop
invariant-loop l =
    record {
      same : l.view ≡ l.initial.view;
      count : length l.views.items ≡ l.counter;
      new : All (IsNewSeat l.board None (seen l.initial.view.view)) l.views.items;
    }
