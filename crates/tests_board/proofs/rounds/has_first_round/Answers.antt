use Rattle.board.proofs.Walking.{new_first}
use Rattle.tests_board.proofs.rounds.has_first_round.Goals as goal

pub new-requires-clause-first : goal.new-requires-clause-first
new-requires-clause-first g c = new_first c.in_ok-board.board c.in_ok-board.seat c.in_ok-board.ensures.seat
