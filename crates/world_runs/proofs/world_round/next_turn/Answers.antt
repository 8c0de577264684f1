use Rattle.world_runs.proofs.WorldRounds.{next_turn_is}
use Rattle.world_runs.proofs.world_round.next_turn.Goals as goal

pub returns : goal.returns
returns c = λ first h.
    next_turn_is first c.args.world.now c.args.queue.now c.args.from c.plan-plan.ensures.checked c.plan-plan.ensures.reachable h c.next.result c.next.ensures.next
    (c.next.ensures.inside first c.args.world.now h)
