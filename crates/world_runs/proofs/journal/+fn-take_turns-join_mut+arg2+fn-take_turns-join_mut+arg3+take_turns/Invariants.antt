use Rattle.world_runs.proofs.journal.+fn-take_turns-join_mut+arg2+fn-take_turns-join_mut+arg3+take_turns.Given as goal

abbrev pub decreases-join_mut+arg2 : goal.decreases-join_mut+arg2
decreases-join_mut+arg2 g l = l.few

abbrev pub decreases-join_mut+arg3 : goal.decreases-join_mut+arg3
decreases-join_mut+arg3 g l = l.rest

abbrev pub decreases-take_turns : goal.decreases-take_turns
decreases-take_turns g l = l.workers
