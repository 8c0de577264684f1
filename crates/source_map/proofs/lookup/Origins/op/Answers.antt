use Rattle.std.proofs.Common.{◌+◌, arith, sym, ap, ◌∙◌}
use Rattle.std.specs.List.{slice_get}
use Rattle.pl_plan.specs.Unfolding.{visits_of}
use Rattle.source_map.specs.Origins.{comes_to_op, statements_where}
use Rattle.source_map.proofs.ForkBodies.{body_within}
use Rattle.source_map.proofs.Sought.{none_past}
use Rattle.source_map.proofs.TasksVisits.{body_found, visits_found}
use Rattle.source_map.proofs.lookup.Origins.op.Goals as goal

pub returns-in_err-body : goal.returns-in_err-body
returns-in_err-body c =
    absurd (body_found c.args.program.now c.args.self.now.forks c.args.t.0 c.in_ok-fork.fork c.requires.origins.forks c.in_ok-fork.ensures c.in_err-body.ensures)

pub overflow_add-fork : goal.overflow_add-fork
overflow_add-fork c =
    let h = body_within c.args.program.now.body c.in_ok-body.body.now c.in_ok-fork.fork c.in_ok-body.ensures in omega (arith, h, c.requires.few)

pub seek_in_body-requires : goal.seek_in_body-requires
seek_in_body-requires c =
    let h = body_within c.args.program.now.body c.in_ok-body.body.now c.in_ok-fork.fork c.in_ok-body.ensures in omega (arith, h, c.requires.few)

pub returns-in-Found : goal.returns-in-Found
returns-in-Found c =
    let visits = visits_found c.args.program.now c.args.self.now.forks c.args.t.0 c.in_ok-fork.fork c.requires.origins.forks c.in_ok-fork.ensures
    c.in_ok-body.body.now c.in_ok-body.ensures in
    sym (ap (λ ms. slice_get (statements_where comes_to_op ms) c.args.i) visits ∙ c.in-Found.ensures)

pub returns-in-Left : goal.returns-in-Left
returns-in-Left c =
    let visits = visits_found c.args.program.now c.args.self.now.forks c.args.t.0 c.in_ok-fork.fork c.requires.origins.forks c.in_ok-fork.ensures
    c.in_ok-body.body.now c.in_ok-body.ensures in
    sym (ap (λ ms. slice_get (statements_where comes_to_op ms) c.args.i) visits
    ∙ ap (slice_get (statements_where comes_to_op (visits_of (c.in_ok-fork.fork + 1) c.in_ok-body.body.now))) c.in-Left.ensures
    ∙ none_past (statements_where comes_to_op (visits_of (c.in_ok-fork.fork + 1) c.in_ok-body.body.now)) c.in-Left.field-0)
