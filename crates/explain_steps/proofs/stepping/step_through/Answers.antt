use Rattle.std.proofs.Common.{refl}
use Rattle.explain_steps.proofs.GoingOn.{stepped_run}
use Rattle.explain_steps.proofs.stepping.step_through.Goals as goal

pub returns : goal.returns
returns c =
    let facts = c.args.facts.now in
    record { run = stepped_run facts c.requires.known c.args.plan.now c.in_ok-run.run' facts.places.now facts.program.now refl refl c.in_ok-run.ensures.run }
