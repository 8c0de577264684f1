use Rattle.std.proofs.Common.{◌∙◌, subst, sym}
use Rattle.clock_source_map.specs.ClockOps.{all_op_origins}
use Rattle.explain_steps.specs.calls.SteppedRuns.{IsRunBy}
use Rattle.explain_steps.specs.ClockStepWords.{clock_step_line}
use Rattle.explain_steps.specs.OpFacts.{OpFacts, written_parts}
use Rattle.explain_steps.specs.calls.Known.{known_ops}
use Rattle.explain_steps.proofs.OneClockShowing.{same_op_facts}
use Rattle.explain_steps.proofs.clock_stepping.run_of_layout.Goals as goal

pub returns : goal.returns
returns c = record {
  run = λ u t is so.
      let f = known_ops c.in_ok-facts.facts in
      subst (λ (g : OpFacts). IsRunBy (clock_step_line g) c.args.plan.now c.in_ok-run.run')
      (same_op_facts f.of_text t f.statements (written_parts c.args.program.now.body) f.origins (all_op_origins u)
      (c.in_ok-facts.ensures.text ∙ sym so) c.in_ok-facts.ensures.statements (c.in_ok-facts.ensures.origins u is)) c.in_ok-run.ensures.run;
}
