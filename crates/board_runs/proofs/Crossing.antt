-- What is handed to a thread that takes turns.
use mir.Syntax.{Sym}
use denote.RattleType.{RattleType}
use denote.Builtin.{One}
use denote.Ref.{NamedLft}
use denote.Struct.Field.{mut_slice_field, shr_ref_field, u8-field}
use denote.Struct.Tuple.{TupleAt}
use denote.Param.Send.{IsSend, IsSync, sendable}
use Rattle.std.proofs.Common.{[], ◌∷◌}
use Rattle.std.proofs.Crossing.{crosses}
use Rattle.std.proofs.alloc.Global.TheSendSync as heap
use Rattle.std.specs.contracts.alloc.Global as global
use Rattle.armus_base.specs.contracts.plan.Plan as plans
use Rattle.board.proofs.Sending.{board_sync, task_seat_send}
use Rattle.armus_base.proofs.plan.Plan.TheSendSync as plan_crosses
use Rattle.avoider.proofs.Sending.{judge_send}
use Rattle.phase_scan.proofs.Sending.{cells_send}
use Rattle.board_runs.specs.contracts.rounds.TurnSetting as settings
use Rattle.board_runs.specs.contracts.task.Task as tasks
use Rattle.board_runs.specs.contracts.worker_cells.WorkerCells as rooms

-- threads may share a plan
pub plan_sync : IsSync plans.the_row
plan_sync = search (sendable, crosses, plan_crosses.the_sync) depth 30

-- a task may be handed to a thread
pub task_send : (a : NamedLft) → IsSend (tasks.the_row a)
task_send a = search (sendable, crosses, plan_sync, task_seat_send, heap.the_send, heap.the_sync) depth 30

pub global_sync : IsSync global.the_row
global_sync = search (sendable, crosses, heap.the_send, heap.the_sync) depth 30

-- a worker's cells may be handed to a thread
pub worker_cells_send : IsSend rooms.the_row
worker_cells_send = search (sendable, crosses, cells_send, judge_send) depth 30 fits 20000

-- threads may share what a round needs
pub setting_sync : (a : NamedLft) (X Y : RattleType) → IsSync X → IsSync Y → IsSync (settings.the_row a X Y)
setting_sync a X Y x y = search (sendable, crosses, global_sync, board_sync) depth 30

pub turns_send :
    (ν : Sym) (a b i j k : NamedLft) (X Y Z : RattleType) (third : One Z.mir) → IsSync X → IsSync Y → IsSend Z →
    IsSend (TupleAt ν
    ((shr_ref_field a (settings.the_row b X Y) tt).row ∷ (shr_ref_field i u8-field.row tt).row ∷ (mut_slice_field j rooms.the_row tt).row
    ∷ (mut_slice_field k Z third).row ∷ []))
turns_send ν a b i j k X Y Z third x y z =
    let shared : IsSync (settings.the_row b X Y) = setting_sync b X Y x y in
    search (sendable, worker_cells_send) depth 30
