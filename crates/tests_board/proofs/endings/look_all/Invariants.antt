use Rattle.std.proofs.Common.{All}
use Rattle.board.specs.calls.Seats.{IsOf}
use Rattle.tests_board.proofs.endings.look_all.Given as goal

abbrev pub invariant-loop-seat : goal.invariant-loop-seat
invariant-loop-seat l = All (λ s. IsOf s l.board) l.seats
