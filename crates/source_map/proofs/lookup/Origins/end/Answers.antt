use Rattle.std.proofs.Common.{arith}
use Rattle.source_map.proofs.ForkBodies.{body_within}
use Rattle.source_map.proofs.TasksVisits.{body_found, end_found}
use Rattle.source_map.proofs.lookup.Origins.end.Goals as goal

pub returns-in_err-body : goal.returns-in_err-body
returns-in_err-body c =
    absurd (body_found c.args.program.now c.args.self.now.forks c.args.t.0 c.in_ok-fork.fork c.requires.origins.forks c.in_ok-fork.ensures c.in_err-body.ensures)

pub overflow_add-fork : goal.overflow_add-fork
overflow_add-fork c =
    let h = body_within c.args.program.now.body c.in_ok-body.body.now c.in_ok-fork.fork c.in_ok-body.ensures in omega (arith, h, c.requires.few)

pub last_of_body-requires : goal.last_of_body-requires
last_of_body-requires c =
    let h = body_within c.args.program.now.body c.in_ok-body.body.now c.in_ok-fork.fork c.in_ok-body.ensures in omega (arith, h, c.requires.few)

pub returns : goal.returns
returns c =
    end_found c.args.program.now c.args.self.now.forks c.args.t.0 c.in_ok-fork.fork c.requires.origins.forks c.in_ok-fork.ensures
    c.in_ok-body.body.now c.last_of_body.result c.in_ok-body.ensures c.last_of_body.ensures
