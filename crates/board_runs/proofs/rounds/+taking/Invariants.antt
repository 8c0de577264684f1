use Rattle.std.proofs.Common.{◌+◌, ◌*◌}
use Rattle.board_runs.proofs.rounds.+taking.Given as goal

abbrev pub decreases-take_turns_in_halves-join_mut+arg2 : goal.decreases-take_turns_in_halves-join_mut+arg2
decreases-take_turns_in_halves-join_mut+arg2 g l = 3 * l.few + 2

abbrev pub decreases-take_turns_in_halves-join_mut+arg3 : goal.decreases-take_turns_in_halves-join_mut+arg3
decreases-take_turns_in_halves-join_mut+arg3 g l = 3 * l.rest + 2

abbrev pub decreases-take_turns : goal.decreases-take_turns
decreases-take_turns g l = 3 * l.workers + 1

abbrev pub decreases-take_turns_in_halves : goal.decreases-take_turns_in_halves
decreases-take_turns_in_halves g l = 3 * l.workers
