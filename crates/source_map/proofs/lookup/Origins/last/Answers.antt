use Rattle.std.proofs.Common.{◌+◌, ◌∙◌, arith, sym, ap}
use Rattle.source_map.specs.Origins.{last_of}
use Rattle.source_map.proofs.ForkBodies.{body_within, numbers_of}
use Rattle.source_map.proofs.LastVisits.{has_last, has_none}
use Rattle.source_map.proofs.TasksVisits.{body_found, visits_found}
use Rattle.source_map.proofs.lookup.Origins.last.Goals as goal

pub returns-in_err-body : goal.returns-in_err-body
returns-in_err-body c =
    absurd (body_found c.args.program.now c.args.self.now.forks c.args.t.0 c.in_ok-fork.fork c.requires.origins.forks c.in_ok-fork.ensures c.in_err-body.ensures)

pub returns-then-statements-eq0 : goal.returns-then-statements-eq0
returns-then-statements-eq0 c =
    let visits = visits_found c.args.program.now c.args.self.now.forks c.args.t.0 c.in_ok-fork.fork c.requires.origins.forks c.in_ok-fork.ensures
    c.in_ok-body.body.now c.in_ok-body.ensures in
    has_none (c.in_ok-fork.fork + 1) c.in_ok-body.body.now (sym c.statements.ensures ∙ c.if-statements-eq0.true) ∙ sym (ap (λ ms. last_of (numbers_of ms)) visits)

pub overflow_add-fork : goal.overflow_add-fork
overflow_add-fork c =
    let h = body_within c.args.program.now.body c.in_ok-body.body.now c.in_ok-fork.fork c.in_ok-body.ensures in omega (arith, h, c.requires.few)

pub last_of_body-requires : goal.last_of_body-requires
last_of_body-requires c =
    let h = body_within c.args.program.now.body c.in_ok-body.body.now c.in_ok-fork.fork c.in_ok-body.ensures in omega (arith, h, c.requires.few)

pub returns : goal.returns
returns c =
    let visits = visits_found c.args.program.now c.args.self.now.forks c.args.t.0 c.in_ok-fork.fork c.requires.origins.forks c.in_ok-fork.ensures
    c.in_ok-body.body.now c.in_ok-body.ensures in
    has_last (c.in_ok-fork.fork + 1) c.in_ok-body.body.now 0 c.last_of_body.result
    (λ none. c.if-statements-eq0.false (c.statements.ensures ∙ none)) c.last_of_body.ensures ∙ sym (ap (λ ms. last_of (numbers_of ms)) visits)
