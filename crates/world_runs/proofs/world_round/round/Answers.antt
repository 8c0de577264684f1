use Rattle.world_runs.proofs.world_round.round.Goals as goal

pub returns-clause-queue : goal.returns-clause-queue
returns-clause-queue g c = c.round_ended.ensures c.args.world.now c.turns.new.world c.in_ok-moved.ensures.queue
