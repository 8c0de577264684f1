use Rattle.std.proofs.Common.{ap, arith, length}
use Rattle.armus_base.specs.Plans.{Plan}
use Rattle.clock_source_map.proofs.AllOrigins.{begun_many, origins_end, origins_next, unfolding_of_plan}
use Rattle.clock_source_map.proofs.ops.clock_op_origins.Goals as goal

pub new-requires-clause-unfolds : goal.new-requires-clause-unfolds
new-requires-clause-unfolds c =
    let (u, is, of) = unfolding_of_plan c.args.program.now.body c.args.plan.now c.requires.unfolds in
    (u, is)

pub loop-t-init : goal.loop-t-init
loop-t-init c = λ u is. c.new-all.ensures.empty

pub task_origins-requires : goal.task_origins-requires
task_origins-requires c =
    let (u, is, of) = unfolding_of_plan c.args.program.now.body c.args.plan.now c.requires.unfolds in
    let lt = c.loop-t-test.true in
    let many = c.tasks-t-end.ensures.counted in
    let begun = ap length (c.in_ok-origins.ensures u is).begun in
    record {
      task = omega (arith, lt, many);
      begun = omega (arith, lt, many, begun, begun_many c.args.program.now.body u is, ap (λ (q : Plan). length q.parents) of);
    }

pub loop-t-preserved : goal.loop-t-preserved
loop-t-preserved c = λ u is.
    let lt = c.loop-t-test.true in
    let many = c.tasks-t-end.ensures.counted in
    origins_next c.args.program.now.body u c.args.plan.now c.loop-t.t c.in_ok-origins.origins.begun c.in_ok-task_origins.field-0 c.loop-t.all c.push.new.self is
    c.requires.unfolds (c.in_ok-origins.ensures u is).begun (omega (arith, lt, many)) c.in_ok-task_origins.ensures (c.loop-t.invariant u is) c.in_ok-push.ensures.ok

pub returns : goal.returns
returns c = λ u is.
    let past = c.loop-t-test.false in
    let many = c.tasks-t-end.ensures.counted in
    origins_end c.args.program.now.body u c.args.plan.now c.loop-t.t c.loop-t.all is c.requires.unfolds (omega (arith, past, many)) (c.loop-t.invariant u is)
