use Rattle.board.proofs.Walking.{new_first}
use Rattle.tests_board.proofs.walker.begin_as.Goals as goal

pub of-requires-clause-first : goal.of-requires-clause-first
of-requires-clause-first c = new_first _ _ c.in_ok-board.ensures.seat
