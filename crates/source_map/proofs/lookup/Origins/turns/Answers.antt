use Rattle.std.proofs.Common.{◌+◌, ◌++◌, ◌∙◌, arith, sym, ap}
use Rattle.std.specs.List.{slice_get}
use Rattle.source_map.specs.Turns.{making_op, turned_visits, turns_of}
use Rattle.source_map.proofs.ForkBodies.{body_within}
use Rattle.source_map.proofs.TasksVisits.{body_found, turned_found}
use Rattle.source_map.proofs.lookup.Origins.turns.Goals as goal

pub returns-in_default-body_at : goal.returns-in_default-body_at
returns-in_default-body_at c =
    absurd (body_found c.args.program.now c.args.self.now.forks c.args.t.0 c.in-Some.fork c.requires.origins.forks c.in-Some.ensures c.in_default-body_at.ensures)

pub overflow_add-fork : goal.overflow_add-fork
overflow_add-fork c =
    let h = body_within c.args.program.now.body c.in-Some-body_at.body.now c.in-Some.fork c.in-Some-body_at.ensures in omega (arith, h, c.requires.few)

pub put_turns-requires : goal.put_turns-requires
put_turns-requires c =
    let h = body_within c.args.program.now.body c.in-Some-body_at.body.now c.in-Some.fork c.in-Some-body_at.ensures in omega (arith, h, c.requires.few)

pub returns : goal.returns
returns c =
    let turned = turned_found c.args.program.now c.args.self.now.forks c.args.t.0 c.in-Some.fork c.requires.origins.forks c.in-Some.ensures
    c.in-Some-body_at.body.now c.in-Some-body_at.ensures in
    c.from_vec.ensures.items ∙ (c.in_ok-put_turns.ensures ∙ (ap (λ xs. xs ++ turns_of (slice_get (making_op (turned_visits (c.in-Some.fork + 1) c.in-Some-body_at.body.now)) c.args.i)) c.new-turns.ensures.items
    ∙ ap (λ vs. turns_of (slice_get (making_op vs) c.args.i)) (sym turned)))
