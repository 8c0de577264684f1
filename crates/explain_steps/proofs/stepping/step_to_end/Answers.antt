use Rattle.std.proofs.Common.{◌∙◌, ◌++◌, ap}
use Rattle.explain_steps.specs.ShownSteps.{more_steps_line}
use Rattle.explain_steps.proofs.GoingOn.{run_by}
use Rattle.explain_steps.proofs.stepping.step_to_end.Goals as goal

pub returns : goal.returns
returns g c =
    let run = c.in_ok-world.field-0 in
    let (h, so_far) = c.in_ok-world.ensures.run in
    record {
      run = run_by (g.T.TellsSteps.words c.args.text.now) c.args.plan.now run h so_far c.in_ok-world.ensures.plan c.in_ok-world.ensures.quiet
          c.from_vec.result c.in_ok-end.end
          (c.from_vec.ensures.items ∙ c.in_ok-put_rest.ensures ∙ ap (λ n. run.lines.items ++ more_steps_line n) c.saturating_sub.ensures) c.in_ok-end.ensures.end;
    }
