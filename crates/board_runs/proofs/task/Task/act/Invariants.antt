use Rattle.std.proofs.Common.{◌≡◌, ◌+◌, ℕ, List, length}
use Rattle.armus_base.specs.Plans.{Action}
use Rattle.board_runs.specs.calls.Turns.{CountsActions, CountsLoadsOf}
use Rattle.board_runs.proofs.Counting.{left_to_task}
use Rattle.board_runs.proofs.Goings.{HasActed}
use Rattle.board_runs.proofs.task.Task.act.Given as goal

abbrev pub invariant-act : goal.invariant-act
invariant-act g l = record {
  own : List Action;
  acted : HasActed l.setting.board.now own l.actions l.initial.self l.self;
  counts : (n : ℕ) → CountsActions n l.initial.self → CountsActions (n + l.actions) l.self;
  nobody : l.self.children ≡ l.initial.self.children;
  had : l.had ≡ length l.initial.self.children;
  loads : CountsLoadsOf l.initial.self.seat l.self.seat l.initial.cells l.cells;
}

abbrev pub decreases-act : goal.decreases-act
decreases-act g l = left_to_task l.self
