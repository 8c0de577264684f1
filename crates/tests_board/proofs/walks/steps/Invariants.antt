use Rattle.board.specs.calls.Seats.{IsOf}
use Rattle.tests_board.proofs.walks.steps.Given as goal

abbrev pub invariant-loop : goal.invariant-loop
invariant-loop l = IsOf l.walker l.board
