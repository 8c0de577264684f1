use Rattle.std.proofs.Common.{◌≡◌, Ok}
use Rattle.board_runs.specs.calls.TaskSeats.{left_to}
use Rattle.task_runner.specs.inside.BoardRuns.{IsOnBoard}
use Rattle.task_runner.proofs.board_run.BoardRun.go.Given as goal

abbrev pub invariant-rounds : goal.invariant-rounds
invariant-rounds g l = record {
  plan : l.self.plan ≡ l.initial.self.plan;
  options : l.self.options ≡ l.initial.self.options;
  on_board : IsOnBoard l.board l.self.plan.now l.self.board_tasks;
  fits : g.B.Beside.fits l.board l.beside l.out;
  passes : g.B.Beside.passes l.board l.initial.beside l.initial.out l.beside l.out (Ok tt);
}

abbrev pub decreases-rounds : goal.decreases-rounds
decreases-rounds g l = left_to l.board.plan l.self.board_tasks
