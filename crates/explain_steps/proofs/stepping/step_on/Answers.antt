use Rattle.std.proofs.Common.{inl}
use Rattle.explain_steps.proofs.stepping.step_on.Goals as goal

pub returns-clause-queue : goal.returns-clause-queue
returns-clause-queue c =
    let w = c.args.world.now in
    let made = c.in_ok-step_made-in-Some.ensures w w (inl c.step.ensures) c.in-Some.ensures.kind.1 c.requires.turn c.requires.queue in
    c.round_ended.ensures w c.step.new.self made.1
