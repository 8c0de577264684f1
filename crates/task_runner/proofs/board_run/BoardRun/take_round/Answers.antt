use denote.Exit.{no}
use denote.Param.{param}
use denote.Param.Send.{arg_send, param_send}
use Rattle.std.proofs.Common.{rules}
use Rattle.task_runner.proofs.Crossing.{turn_send}
use Rattle.task_runner.proofs.board_run.BoardRun.take_round.Goals as goal

pub join_mut-requires-send-F : goal.join_mut-requires-send-F
join_mut-requires-send-F g c κs within =
    param_send 1 _ (arg_send _ no _ (turn_send _ _ _ _ _ _ (param 0 g.row.R) (param 1 g.row.G) tt tt (search rules) (search rules)))
