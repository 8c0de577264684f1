use Rattle.std.proofs.Common.{arith}
use Rattle.source_map.proofs.ForkBodies.{body_within}
use Rattle.source_map.proofs.lookup.push_of_task.Goals as goal

pub overflow_add-fork : goal.overflow_add-fork
overflow_add-fork c =
    let h = body_within c.args.program.now.body c.in-Some-body_at.body.now c.in-Some.fork c.in-Some-body_at.ensures in omega (arith, h, c.requires.few)

pub push_of_body-requires : goal.push_of_body-requires
push_of_body-requires c =
    let h = body_within c.args.program.now.body c.in-Some-body_at.body.now c.in-Some.fork c.in-Some-body_at.ensures in omega (arith, h, c.requires.few)
