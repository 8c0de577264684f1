use Rattle.pl_plan.proofs.Planned.{flattened_alone}
use Rattle.pl_plan.proofs.planning.flat_steps.Goals as goal

pub returns : goal.returns
returns c =
    flattened_alone c.new-names.result.keys c.flatten_body.new.names.keys c.new-steps.result.items c.flatten_body.new.steps.items c.args.body.now c.len.result
    c.new-steps.ensures.items c.len.ensures.len c.in_ok-flatten_body.ensures
