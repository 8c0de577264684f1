use denote.Exit.{no}
use denote.Param.Send.{IsSync, arg_send, param_send, sendable}
use Rattle.armus_base.specs.contracts.ids.TaskId.{the_row as id_row}
use Rattle.tests_board.proofs.HandedOver.{half_send}
use Rattle.tests_board.proofs.endings.look_in_halves.Goals as goal

id_sync : IsSync id_row
id_sync = search sendable

pub join_mut-requires-send-F : goal.join_mut-requires-send-F
join_mut-requires-send-F g c κs within = param_send 1 _ (arg_send _ no _ (half_send _ _ _ _ id_row tt id_sync))
