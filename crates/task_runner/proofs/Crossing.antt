-- What is handed to a thread that takes a round.
use mir.Syntax.{Sym}
use denote.RattleType.{RattleType}
use denote.Builtin.{One}
use denote.Ref.{NamedLft}
use denote.Struct.Field.{mut_ref_field, shr_ref_field}
use denote.Struct.Tuple.{TupleAt}
use denote.Param.Send.{IsSend, IsSync, sendable}
use Rattle.std.proofs.Common.{[], ◌∷◌}
use Rattle.std.proofs.Crossing.{crosses}
use Rattle.std.proofs.alloc.Global.TheSendSync as heap
use Rattle.board.specs.contracts.board.Board as boards
use Rattle.board.proofs.Sending.{board_sync}
use Rattle.board_runs.proofs.Crossing.{plan_sync, task_send, worker_cells_send}
use Rattle.board_runs.specs.contracts.board_tasks.BoardTasks as board_tasks_rows
use Rattle.task_runner.specs.contracts.board_run.BoardRun as runs

-- the tasks of a run may be handed to a thread
pub board_tasks_send : (a : NamedLft) → IsSend (board_tasks_rows.the_row a)
board_tasks_send a = search (sendable, crosses, task_send, worker_cells_send, heap.the_send, heap.the_sync) depth 30

-- and with what their rounds need
pub board_run_send : (a : NamedLft) → IsSend (runs.the_row a)
board_run_send a = search (sendable, crosses, board_tasks_send, plan_sync, heap.the_send, heap.the_sync) depth 30

pub turn_send :
    (ν : Sym) (a b c d k : NamedLft) (X Y : RattleType) (one : One X.mir) (other : One Y.mir) → IsSync X → IsSync Y →
    IsSend (TupleAt ν
    ((mut_ref_field a (runs.the_row k) tt).row ∷ (shr_ref_field b X one).row ∷ (shr_ref_field c boards.the_row tt).row ∷ (shr_ref_field d Y other).row ∷ []))
turn_send ν a b c d k X Y one other x y = search (sendable, board_sync, board_run_send) depth 30
