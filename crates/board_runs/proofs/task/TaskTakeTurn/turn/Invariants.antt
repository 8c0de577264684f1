use Rattle.std.proofs.Common.{List}
use Rattle.armus_base.specs.Plans.{Action}
use Rattle.board_runs.specs.calls.Turns.{CountsActions, CountsLoadsOf}
use Rattle.board_runs.proofs.Counting.{left_to_task}
use Rattle.board_runs.proofs.Goings.{HasActed}
use Rattle.board_runs.proofs.task.TaskTakeTurn.turn.Given as goal

abbrev pub invariant-turn : goal.invariant-turn
invariant-turn g l = record {
  own : List Action;
  acted : HasActed l.setting.board.now own l.made l.initial.self l.self;
  counts : CountsActions l.made l.self;
  loads : CountsLoadsOf l.initial.self.seat l.self.seat l.initial.cells l.cells;
}

abbrev pub decreases-turn : goal.decreases-turn
decreases-turn g l = left_to_task l.self
