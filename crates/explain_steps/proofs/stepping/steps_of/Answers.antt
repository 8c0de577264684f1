use Rattle.std.proofs.Common.{[], arith, refl}
use Rattle.explain_steps.proofs.GoingOn.{few_steps, none_yet}
use Rattle.explain_steps.proofs.stepping.steps_of.Goals as goal

pub loop-run-init : goal.loop-run-init
loop-run-init g c = record {
  plan = c.in_ok-world.ensures.opening.plan_is;
  so_far = (
    [],
    none_yet (g.T.TellsSteps.words c.args.text.now) c.args.plan.now (record { world = c.in_ok-world.world; lines = c.new.result; steps = 0 })
        c.tasks-tasks.ensures.checked c.in_ok-world.ensures.opening refl c.new.ensures.items,
  );
  queue = c.in_ok-queue.ensures;
}

pub go_on-requires-clause-room : goal.go_on-requires-clause-room
go_on-requires-clause-room g c =
    let (h, so_far) = c.loop-run.invariant.so_far in
    let few = few_steps (g.T.TellsSteps.words c.args.text.now) h c.loop-run.run so_far in
    omega (arith, few)

pub loop-run-smaller : goal.loop-run-smaller
loop-run-smaller g c =
    let (h, so_far) = c.loop-run.invariant.so_far in
    let few = few_steps (g.T.TellsSteps.words c.args.text.now) h c.loop-run.run so_far in
    let more = c.in_ok-go_on.ensures.counted c.if-branch.true in
    omega (arith, few, more)

pub returns-clause-quiet : goal.returns-clause-quiet
returns-clause-quiet g c = c.in_ok-go_on.ensures.quiet c.if-branch.false
