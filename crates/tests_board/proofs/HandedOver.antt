-- What one half of the seats is handed to a thread with.
use mir.Syntax.{Sym}
use denote.RattleType.{RattleType}
use denote.Builtin.{One}
use denote.Ref.{NamedLft}
use denote.Struct.Field.{mut_slice_field, shr_ref_field}
use denote.Struct.Tuple.{TupleAt}
use denote.Param.Send.{IsSend, IsSync, sendable}
use Rattle.std.proofs.Common.{[], ◌∷◌}
use Rattle.board.proofs.Sending.{board_sync, task_seat_send}
use Rattle.board.specs.contracts.board.Board as boards
use Rattle.board.specs.contracts.task_seat.TaskSeat as task_seats

-- the board, the seats, and something more that threads may share
pub half_send :
    (ν : Sym) (a b c : NamedLft) (X : RattleType) (one : One X.mir) → IsSync X →
    IsSend (TupleAt ν ((shr_ref_field a boards.the_row tt).row ∷ (mut_slice_field b task_seats.the_row tt).row ∷ (shr_ref_field c X one).row ∷ []))
half_send ν a b c X one x = search (sendable, board_sync, task_seat_send) depth 30
