use Rattle.world_runs.proofs.EndWorlds.{plain_world_end}
use Rattle.world_runs.proofs.PlainWorlds.{opening_plain}
use Rattle.world_runs.proofs.ending.run_to_world.Goals as goal

pub end_by-requires-clause-keeps : goal.end_by-requires-clause-keeps
end_by-requires-clause-keeps c κs = opening_plain c.args.plan.now c.in_ok-world.world c.in_ok-world.ensures.opening

pub returns : goal.returns
returns c =
    record { end = plain_world_end c.args.plan.now c.in_ok-world.world c.in_ok-ended.ended c.in_ok-world.ensures.opening.plan_is c.in_ok-ended.ensures.end }
